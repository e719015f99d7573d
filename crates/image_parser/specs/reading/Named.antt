-- Whether the machine's regions name objects alone that there are.
use Rattle.std.specs.Prelude.{◌≡◌, ℕ, ◌<◌, Bool, true, List, Option, Some, None, is_some, length, slice_get}
use Rattle.vm_state.specs.declared.object.Object.{Object}
use Rattle.vm_state.specs.declared.value.Value.{Value}
use Rattle.vm_state.specs.declared.value.Value.TheVariants as values
use Rattle.vm_state.specs.Objects.{HeldObjects}
use Rattle.vm_state.specs.Pools.{pool_by}
use Rattle.vm_state.specs.SharedState.{Pool}
use Rattle.vm_state.specs.Statics.{field_in}
use Rattle.program.specs.Tables.{Tables, statics_in}
use Rattle.region_shape.specs.declared.regions.Region.{Region}
use Rattle.region_shape.specs.Regions.{environment_of, region_in}
use Rattle.object_graph.specs.Reached.{object_of}

abbrev pub AllBelow : (ℕ → Type 0) → ℕ → Type 0
AllBelow Q n = (k : ℕ) → k < n → Q k

-- whether there is an object of a class and a number
abbrev pub is_there : List (Option Region) → ℕ → ℕ → Bool
is_there regions c n = is_some (object_of (environment_of regions) (record { class = c; number = n }))

-- A name is one of an object that there is.
abbrev pub NamesThere : List (Option Region) → Value → Type 0
NamesThere regions (values.OfClass c n) = is_there regions c n ≡ true
NamesThere regions _ = Unit {0}

-- the value in a slot, if there is such a slot
abbrev pub SlotNames : List (Option Region) → List Value → ℕ → Type 0
SlotNames regions slots k = (v : Value) → slice_get slots k ≡ Some v → NamesThere regions v

abbrev pub SlotsName : List (Option Region) → List Value → Type 0
SlotsName regions slots = AllBelow (SlotNames regions slots) (length slots)

-- the slots of the object at a place
abbrev pub KeptNames : List (Option Region) → HeldObjects → ℕ → Type 0
KeptNames regions pool k = (held : ℕ × Object) → slice_get pool.objects k ≡ Some held → SlotsName regions held.1.slots

-- the slots of each object
abbrev pub PoolNames : List (Option Region) → Pool → Type 0
PoolNames regions pool = (n : ℕ) (object : Object) → pool.at n ≡ Some object → SlotsName regions object.slots

-- the first so many static fields
abbrev pub FieldsName : List (Option Region) → (ℕ → Value) → ℕ → Type 0
FieldsName regions fields count = AllBelow (λ k. NamesThere regions (fields k)) count

-- a region of a class with so many static fields
abbrev pub RegionNames : List (Option Region) → Region → ℕ → Type 0
RegionNames regions region count = FieldsName regions (field_in region.fields) count × PoolNames regions
    (pool_by region.objects)

-- a class that is not initialized names nothing
abbrev pub MayName : List (Option Region) → Option Region → ℕ → Type 0
MayName regions None count = Unit {0}
MayName regions (Some region) count = RegionNames regions region count

abbrev pub ClassNames : Tables → List (Option Region) → ℕ → Type 0
ClassNames P regions c = MayName regions (region_in regions c) (length (statics_in P c))

-- the least class whose region names an object that there is not
pub record IsFirstNameless (P : Tables) (regions : List (Option Region)) (c : ℕ) : Type 0 where
  pub class : c < length P.classes
  pub names : ¬ ClassNames P regions c
  pub least : AllBelow (ClassNames P regions) c
