-- Slots of objects as tables.
use Rattle.std.specs.Prelude.{◌≡◌, ℕ, ◌<◌, ◌^◌, List, [], ◌++◌, length, map, Option, Some, None, slice_get}
use Rattle.std.specs.Prelude.{slice_index_or}
use Rattle.std.specs.List.{AllZip}
use Rattle.classfile.specs.ClassFile.{ClassFile}
use Rattle.loading.specs.declared.given.GivenClass.{GivenClass}
use Rattle.loading.specs.declared.given.Superclass.{Superclass}
use Rattle.loading.specs.declared.given.Superclass.TheVariants as super
use Rattle.loading.specs.Families.{Family, superclass_in}
use Rattle.program.specs.declared.runtime_constant.FieldKind.{FieldKind}
use Rattle.program.specs.declared.slots.SlotChain.{SlotChain}
use Rattle.program.specs.InstanceFields.{own_kinds, built_in_kinds, added_slots, slots_of, slot_after, slot_of}
use Rattle.program.specs.Programs.{zero_of}
use Rattle.vm_state.specs.declared.value.Value.{Value}

-- what a class adds to the slots of its given superclass; a class file has less than 65,536 fields
pub record AreAdded (given : GivenClass) (kinds : List FieldKind) : Type 0 where
  pub slots : kinds ≡ built_in_kinds (Some given.superclass) ++ own_kinds given.file
  pub few : length (own_kinds given.file) < 2 ^ 16

-- by class
abbrev pub AreAddedBy : Family → List (List FieldKind) → Type 0
AreAddedBy family added = AllZip AreAdded family added

abbrev pub given_class : Option Superclass → Option ℕ
given_class (Some (super.Given d)) = Some d
given_class _ = None

abbrev pub slots_if : Family → Option ℕ → List FieldKind
slots_if family None = []
slots_if family (Some c) = slots_of family c

-- those of the superclass, if it is a given one
abbrev pub slots_above : Family → ℕ → List FieldKind
slots_above family c = slots_if family (given_class (superclass_in family c))

-- how many slots there are, and the nearest class that adds some
pub record IsChain (family : Family) (slots : List FieldKind) (chain : SlotChain) : Type 0 where
  pub count : chain.count ≡ length slots
  pub nearest : slots ≡ slots_if family chain.nearest
  pub adds : (d : ℕ) → chain.nearest ≡ Some d → 0 < length (added_slots family d)

abbrev pub no_chain : SlotChain
no_chain = record { count = 0; nearest = None }

abbrev pub chain_in : List SlotChain → ℕ → SlotChain
chain_in chains c = slice_index_or chains c no_chain

abbrev pub AreChains : Family → List SlotChain → Type 0
AreChains family chains = (c : ℕ) → IsChain family (slots_of family c) (chain_in chains c)

-- by class, of those of which it is kept: what its objects hold as they are made
abbrev pub AreZeros : Family → List (Option (List Value)) → Type 0
AreZeros family zeros = (c : ℕ) (slots : List Value) → slice_get zeros c ≡ Some (Some slots)
    → slots ≡ map zero_of (slots_of family c)

-- what is known of the slots of all classes
pub record SlotTables : Type 0 where
  pub added : List (List FieldKind)
  pub chains : List SlotChain
  pub zeros : List (Option (List Value))

pub record AreSlots (family : Family) (tables : SlotTables) : Type 0 where
  pub added : AreAddedBy family tables.added
  pub chains : AreChains family tables.chains
  pub zeros : AreZeros family tables.zeros

-- by field of a class: its slot
abbrev pub AreFieldSlots : ℕ → ClassFile → List ℕ → Type 0
AreFieldSlots before f slots = (k : ℕ) → slice_index_or slots k 0 ≡ slot_after before f k (slice_get f.fields k)

abbrev pub field_slot_in : List (List ℕ) → ℕ → ℕ → ℕ
field_slot_in slots c k = slice_index_or (slice_index_or slots c []) k 0

-- by class: those of its fields
abbrev pub AreFieldSlotsOf : Family → List (List ℕ) → Type 0
AreFieldSlotsOf family slots = (c k : ℕ) → field_slot_in slots c k ≡ slot_of family c k
