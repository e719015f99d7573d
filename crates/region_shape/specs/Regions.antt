-- Regions of classes, and the environment that they are.
use Rattle.std.specs.Prelude.{ℕ, List, Option, Some, None, ◌==◌, if◌then◌else◌, option_map, slice_index_or}
use Rattle.vm_state.specs.SharedState.{Region as RegionOf}
use Rattle.vm_state.specs.Statics.{field_in}
use Rattle.vm_state.specs.Pools.{pool_by}
use Rattle.semantics.specs.Quiet.{Environment}
use Rattle.region_shape.specs.declared.regions.Region.{Region}

-- a region, as definitions see it
abbrev pub region_of : Region → RegionOf
region_of r = record { fields = field_in r.fields; pool = pool_by r.objects }

-- the region of a class, if it is among these
abbrev pub region_in : List (Option Region) → ℕ → Option Region
region_in regions c = slice_index_or regions c None

-- with another region of a class
abbrev pub with_region : (ℕ → Option Region) → ℕ → Region → ℕ → Option Region
with_region regions c r d = if d == c then Some r else regions d

-- the regions of other classes that an initializer may use
abbrev pub environment_of : List (Option Region) → Environment
environment_of regions c = option_map region_of (region_in regions c)
