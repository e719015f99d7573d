-- The states and the static fields of the given classes (JVMS 2.5.4, 5.5), as functions of the numbers of classes and
-- fields.
use Rattle.std.specs.Prelude.{ℕ, map, List, [], Option, Some, None, slice_get, slice_index_or, unwrap_or, if◌then◌else◌}
use Rattle.std.specs.Prelude.{◌==◌, ◌<◌, ◌≤◌, length}
use Rattle.vm_state.specs.declared.value.Value.{Value}
use Rattle.vm_state.specs.declared.value.Value.TheVariants.{Null}
use Rattle.vm_state.specs.declared.classes.ClassState.{ClassState}
use Rattle.vm_state.specs.declared.classes.ClassState.TheVariants.{Uninitialized, InProgress, Initialized, Erroneous}
use Rattle.vm_state.specs.declared.classes.Usability.{Usability}
use Rattle.vm_state.specs.declared.classes.Usability.TheVariants.{Ready, Fresh, Busy, Broken}
use Rattle.vm_state.specs.declared.classes.StaticField.{StaticField}
use Rattle.vm_state.specs.declared.classes.ClassArea.{ClassArea}

-- what a class's state is to a thread (JVMS 5.5, steps 2 to 5)
abbrev pub usable : ℕ → ClassState → Usability
usable t Uninitialized = Fresh
usable t (InProgress u) = if t == u then Ready else Busy
usable t Initialized = Ready
usable t Erroneous = Broken

-- a field that was never set is null
abbrev pub field_in : List Value → ℕ → Value
field_in fields f = slice_index_or fields f Null

-- a class of which nothing is kept yet
abbrev pub untouched : ClassArea
untouched = record { state = Uninitialized; fields = [] }

abbrev pub area_at : List ClassArea → ℕ → ClassArea
area_at areas c = slice_index_or areas c untouched

-- the state of each class
unfoldable pub states_of : List ClassArea → ℕ → ClassState
states_of areas c = (area_at areas c).state

-- the value of each static field of each class
unfoldable pub fields_of : List ClassArea → ℕ → ℕ → Value
fields_of areas c f = field_in (area_at areas c).fields f

-- a class has a place, and so have the first so many of its static fields
pub record IsPlaced (areas : List ClassArea) (c count : ℕ) : Type 0 where
  pub placed : c < length areas
  pub fields : count ≤ length (area_at areas c).fields

-- ---- one class changed

abbrev pub with_state : (ℕ → ClassState) → ℕ → ClassState → ℕ → ClassState
with_state states c s d = if d == c then s else states d

abbrev pub with_fields : (ℕ → ℕ → Value) → ℕ → (ℕ → Value) → ℕ → ℕ → Value
with_fields fields c fs d = if d == c then fs else fields d

abbrev pub with_value : (ℕ → Value) → ℕ → Value → ℕ → Value
with_value fields f v g = if g == f then v else fields g

-- ---- the ConstantValues of final static fields (JVMS 4.7.2, 5.5 step 6)

abbrev pub constant_or : Option StaticField → Value → Value
constant_or None v = v
constant_or (Some field) v = unwrap_or field.constant v

-- the fields with each constant set
abbrev pub with_constants : List StaticField → (ℕ → Value) → ℕ → Value
with_constants statics fields f = constant_or (slice_get statics f) (fields f)

abbrev pub zero_of : Option StaticField → Value
zero_of None = Null
zero_of (Some field) = field.zero

-- before a class's initialization each static field is zero or null (JVMS 2.3, 2.4, 5.4.2)
abbrev pub zeros_of : List StaticField → ℕ → Value
zeros_of statics f = zero_of (slice_get statics f)

-- a class with these fields, whose initialization has not begun
abbrev pub blank_area : List StaticField → ClassArea
blank_area statics = record { state = Uninitialized; fields = map (λ (s : StaticField). s.zero) statics }
