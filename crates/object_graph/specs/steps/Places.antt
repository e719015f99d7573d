-- Places of objects in the pools of their classes, and which of them static fields reach.
use Rattle.std.specs.Prelude.{◌≡◌, ℕ, ◌<◌, List, Option, Some, None, length, slice_get}
use Rattle.std.specs.List.{Contains}
use Rattle.vm_state.specs.declared.object.Object.{Object}
use Rattle.vm_state.specs.declared.value.Value.{Value}
use Rattle.vm_state.specs.Objects.{HeldObjects, AscendsFrom, none_held}
use Rattle.vm_state.specs.SharedState.{Region}
use Rattle.program.specs.Tables.{Tables, statics_in}
use Rattle.place_set.specs.declared.set.Place.{Place}
use Rattle.region_shape.specs.declared.regions.Region.{Region as Held}
use Rattle.region_shape.specs.Regions.{region_in, environment_of}
use Rattle.object_graph.specs.declared.name_set.ObjectName.{ObjectName}
use Rattle.object_graph.specs.Reached.{reference_to, IsReached}

abbrev pub held_pool : Option Held → HeldObjects
held_pool None = none_held
held_pool (Some region) = region.objects

-- the pool of a class; one that made nothing, where it has no region
abbrev pub pool_in : List (Option Held) → ℕ → HeldObjects
pool_in regions c = held_pool (region_in regions c)

-- its numbers rise, and end below its count
abbrev pub Ascends : HeldObjects → Type 0
Ascends row = AscendsFrom 0 row.objects row.count

-- the name of an object of a class, with its number
abbrev pub name_in : ℕ → ℕ × Object → ObjectName
name_in c held = record { class = c; number = held.0 }

-- ---- what refers to it

-- the place of the object that a value refers to
pub record IsPlaceOf (regions : List (Option Held)) (v : Value) (x : Place) : Type 0 where
  pub held : ℕ × Object
  pub at : slice_get (pool_in regions x.row).objects x.index ≡ Some held
  pub is : v ≡ reference_to (name_in x.row held)

-- one of these values refers to its object
pub record HoldPlace (regions : List (Option Held)) (vs : List Value) (x : Place) : Type 0 where
  pub value : Value
  pub holds : Contains vs value
  pub place : IsPlaceOf regions value x

-- one of the first so many fields does
abbrev pub IsInFields : List (Option Held) → (ℕ → Value) → ℕ → Place → Type 0
IsInFields regions fields count x = (k : ℕ) × (k < count) × IsPlaceOf regions (fields k) x

-- a static field of this class does, and the class is initialized
abbrev pub IsInStaticsOf : Tables → List (Option Held) → ℕ → Place → Type 0
IsInStaticsOf P regions c x =
    (region : Region) × (environment_of regions c ≡ Some region)
    × IsInFields regions region.fields (length (statics_in P c)) x

-- the object of another place does
pub record HoldsPlace (regions : List (Option Held)) (x y : Place) : Type 0 where
  pub held : ℕ × Object
  pub at : slice_get (pool_in regions x.row).objects x.index ≡ Some held
  pub holds : HoldPlace regions held.1.slots y

-- ---- reached

-- there is an object at the place, and it is reached
pub record IsReachedAt (P : Tables) (regions : List (Option Held)) (x : Place) : Type 0 where
  pub held : ℕ × Object
  pub at : slice_get (pool_in regions x.row).objects x.index ≡ Some held
  pub reached : IsReached P (environment_of regions) (name_in x.row held)

-- the first so many places of a class are among these
abbrev pub AreFound : List Place → ℕ → ℕ → Type 0
AreFound found c count = (i : ℕ) → i < count → Contains found (record { row = c; index = i })
