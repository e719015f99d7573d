-- Rows that keep the shape of what threads share.
use Rattle.std.specs.Prelude.{◌≡◌, ◌⊎◌, ℕ, Bool, true, List, Option, Some, None, slice_get}
use Rattle.bytecode.specs.declared.operand.ElementKind.{ElementKind}
use Rattle.built_in.specs.declared.class_id.ClassId.{ClassId}
use Rattle.built_in.specs.declared.class_id.ClassId.TheVariants as classes
use Rattle.vm_state.specs.declared.value.Value.{Value}
use Rattle.vm_state.specs.declared.value.Name.{Name}
use Rattle.semantics.specs.Rows.{Raise, Row, Ends, UseClass, ReadStatic, WriteStatic, AskClass, LookInto}
use Rattle.semantics.specs.Rows.{Change, Make, UseMonitor, Print, Part, Slots}
use Rattle.program.specs.declared.runtime_constant.FieldKind.{FieldKind}
use Rattle.program.specs.InstanceFields.{slots_of}
use Rattle.program.specs.Tables.{Tables}
use Rattle.machine.specs.Arrays.{kind_of_component, stored_as}
use Rattle.region_shape.specs.Suits.{suits}
use Rattle.region_shape.specs.Shapes.{SuitsStatic, HasObjects, AreSlots}

-- The classes of objects, by their names.
abbrev pub Types : Type 0
Types = Name → Option ClassId

abbrev pub HasObjectsIfKnown : Tables → Option ClassId → Type 0
HasObjectsIfKnown P None = Unit {0}
HasObjectsIfKnown P (Some class) = HasObjects P class

-- the slots that are seen of an object of a class
abbrev pub AreSlotsSeen : Tables → Option ClassId → Part → Option (List Value) → Type 0
AreSlotsSeen P (Some class) Slots (Some vs) = AreSlots P class vs
AreSlotsSeen P o part vs = Unit {0}

-- a value for a slot of an object of a class, if such an object has the slot
abbrev pub SuitsSlot : Tables → Option ClassId → ℕ → Value → Type 0
SuitsSlot P None i v = Unit {0}
SuitsSlot P (Some (classes.Given c)) i v =
    (kind : FieldKind) → slice_get (slots_of P.family c) i ≡ Some kind → suits kind v ≡ true
SuitsSlot P (Some (classes.BuiltIn b)) i v = Unit {0}
SuitsSlot P (Some (classes.Array a)) i v =
    (kind : ElementKind) → kind_of_component a ≡ Some kind → suits (stored_as kind) v ≡ true

-- a row that raises an exception at once
abbrev pub IsRaise : Row → Type 0
IsRaise (Ends (Raise x class)) = Unit {0}
IsRaise row = ⊥

abbrev pub IsEnd : Row → Type 0
IsEnd (Ends outcome) = Unit {0}
IsEnd row = ⊥

-- A row that, where objects are of these classes, writes such values alone as suit their fields, and makes such an
-- object alone as there can be, and then ends. Of an exception that it makes and raises at once nothing is said.
abbrev pub KeepsShape : Tables → Types → Row → Type 0
KeepsShape P types (Ends outcome) = Unit {0}
KeepsShape P types (UseClass c next) = (b : Bool) → KeepsShape P types (next b)
KeepsShape P types (ReadStatic c f next) = (v : Value) → KeepsShape P types (next v)
KeepsShape P types (WriteStatic c f v next) = SuitsStatic P c f v × KeepsShape P types next
KeepsShape P types (AskClass x next) = HasObjectsIfKnown P (types x) → KeepsShape P types (next (types x))
KeepsShape P types (LookInto x part next) =
    (vs : Option (List Value)) → AreSlotsSeen P (types x) part vs → KeepsShape P types (next vs)
KeepsShape P types (Change x i v next) = SuitsSlot P (types x) i v × KeepsShape P types next
KeepsShape P types (Make class slots next) =
    ((x : Name) → IsRaise (next x))
    ⊎ (HasObjects P class × AreSlots P class slots × ((x : Name) → IsEnd (next x)))
KeepsShape P types (UseMonitor x enter next) = (b : Bool) → KeepsShape P types (next b)
KeepsShape P types (Print text next) = KeepsShape P types next
