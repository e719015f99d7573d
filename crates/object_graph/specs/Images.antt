-- An image, and the start of a run from it.
use Rattle.std.specs.Prelude.{◌≡◌, ℕ, ◌<◌, ◌^◌, List, Option, Some, None, is_some, length}
use Rattle.vm_state.specs.declared.object.Object.{Object}
use Rattle.vm_state.specs.Pools.{held_count}
use Rattle.vm_state.specs.SharedState.{Region}
use Rattle.semantics.specs.Quiet.{Environment, elements_in}
use Rattle.semantics.specs.Settling.{constant_region}
use Rattle.semantics.specs.Images.{Image as Start}
use Rattle.program.specs.Tables.{Tables}
use Rattle.machine.specs.Linked.{program_of}
use Rattle.region_shape.specs.declared.regions.Region.{Region as Held}
use Rattle.region_shape.specs.Regions.{environment_of}

pub record ImageTables : Type 0 where
  pub program : Tables
  pub regions : List (Option Held)

-- ---- objects

-- The regions are those of classes of the program. Each has fewer than 2^32 objects, and none of these is an array of
-- 2^31 elements or more.
pub record AreSmall (P : Tables) (env : Environment) : Type 0 where
  pub classes : (c : ℕ) (region : Region) → env c ≡ Some region → c < length P.classes
  pub objects : (c : ℕ) (region : Region) → env c ≡ Some region → region.pool.count < 2 ^ 32
  pub elements : (c n : ℕ) (region : Region) (object : Object) → env c ≡ Some region → region.pool.at n ≡ Some object
      → elements_in object.class object.slots < 2 ^ 31

-- how many objects a region holds, if there is one
abbrev pub object_count : Option Region → ℕ
object_count None = 0
object_count (Some region) = held_count region.pool

-- ---- the start of a run

-- the region of a class, or that of one that is not initialized
abbrev pub region_or : Region → Option Region → Region
region_or other (Some region) = region
region_or other None = other

-- The classes that have these regions are initialized at the start.
abbrev pub start_of : Tables → Environment → Start
start_of P env = record {
  holds = λ c. is_some (env c);
  region = λ c. region_or (constant_region (program_of P) c) (env c);
}

-- The classes that are initialized at the start, each with its region.
abbrev pub start_image : ImageTables → Start
start_image I = start_of I.program (environment_of I.regions)
