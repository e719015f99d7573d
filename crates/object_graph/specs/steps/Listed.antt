-- The names of the objects of regions, class by class.
use Rattle.std.specs.Prelude.{ℕ, zero, suc, List, [], ◌++◌, Option, map}
use Rattle.vm_state.specs.declared.object.Object.{Object}
use Rattle.region_shape.specs.declared.regions.Region.{Region as Held}
use Rattle.object_graph.specs.declared.name_set.ObjectName.{ObjectName}
use Rattle.object_graph.specs.steps.Places.{pool_in, name_in}

-- the names of the objects of a class
abbrev pub names_of : ℕ → List (ℕ × Object) → List ObjectName
names_of c objects = map (name_in c) objects

-- those of the first so many classes
abbrev pub names_below : List (Option Held) → ℕ → List ObjectName
names_below regions zero = []
names_below regions (suc n) = names_below regions n ++ names_of n (pool_in regions n).objects
