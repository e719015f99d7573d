-- The shape of a region: it has a value for each static field of its class, which suits the field, and for no other;
-- each object is an instance of a class that has instances, with just the slots that such an instance has, or an array,
-- each slot suiting its field or the elements' type.
use Rattle.std.specs.Prelude.{◌≡◌, ℕ, ◌≤◌, ◌⊎◌, Bool, true, false, List, [], Option, Some, None, slice_get}
use Rattle.std.specs.List.{AllByRecursion, AllZip}
use Rattle.bytecode.specs.declared.operand.ElementKind.{ElementKind}
use Rattle.built_in.specs.declared.class_id.BuiltIn.{BuiltIn}
use Rattle.built_in.specs.declared.class_id.BuiltIn.TheVariants as builtins
use Rattle.built_in.specs.declared.class_id.ClassId.{ClassId}
use Rattle.built_in.specs.declared.class_id.ClassId.TheVariants as classes
use Rattle.vm_state.specs.declared.value.Value.{Value}
use Rattle.vm_state.specs.declared.value.Value.TheVariants.{Null}
use Rattle.vm_state.specs.declared.object.Object.{Object}
use Rattle.vm_state.specs.declared.object.Monitor.TheVariants.{Free}
use Rattle.vm_state.specs.SharedState.{Region}
use Rattle.program.specs.declared.runtime_constant.FieldKind.{FieldKind}
use Rattle.program.specs.Arrays.{is_array_class, IsUnknownArray}
use Rattle.program.specs.InstanceFields.{is_instantiable_in, slots_of, static_kinds}
use Rattle.program.specs.Tables.{Tables}
use Rattle.machine.specs.Arrays.{kind_of_component, stored_as}
use Rattle.region_shape.specs.Suits.{suits}

-- ---- statics

-- A value suits the field, if there is one. Where there is none nothing was set, and that is seen as null.
abbrev pub SuitsField : Option FieldKind → Value → Type 0
SuitsField None v = v ≡ Null
SuitsField (Some kind) v = suits kind v ≡ true

-- a value for the static field of a class, by the field's number
abbrev pub SuitsStatic : Tables → ℕ → ℕ → Value → Type 0
SuitsStatic P c k v = SuitsField (slice_get (static_kinds P.family c) k) v

-- ---- objects

-- the built-in classes whose instances are objects: Enum is abstract, a string and `System.out` are values of their
-- own, and System has none
abbrev pub has_objects : BuiltIn → Bool
has_objects builtins.Enum = false
has_objects builtins.String = false
has_objects builtins.System = false
has_objects builtins.PrintStream = false
has_objects b = true

-- A class of which there can be an object: a given one that is neither abstract nor an interface, such a built-in one,
-- or that of an array type that a name can say, with one dimension at least. An image may hold an array whose elements
-- are of a class that is neither given nor built in.
abbrev pub HasObjects : Tables → ClassId → Type 0
HasObjects P (classes.Given c) = is_instantiable_in P.family c ≡ true
HasObjects P (classes.BuiltIn b) = has_objects b ≡ true
HasObjects P (classes.Array a) =
    ((1 ≤ a.dimensions) × (is_array_class P.family a ≡ true)) ⊎ IsUnknownArray P a

-- elements that instructions of this kind load and store: there are none for float and double
abbrev pub AreElements : Option ElementKind → List Value → Type 0
AreElements None vs = ⊥
AreElements (Some kind) vs = AllByRecursion (λ v. suits (stored_as kind) v ≡ true) vs

-- What an object of a class holds: a value for each instance field of the class and its superclasses, those of the
-- uppermost first; the elements of an array. Objects of built-in classes hold nothing.
abbrev pub AreSlots : Tables → ClassId → List Value → Type 0
AreSlots P (classes.Given c) vs = AllZip (λ kind v. suits kind v ≡ true) (slots_of P.family c) vs
AreSlots P (classes.BuiltIn b) vs = vs ≡ []
AreSlots P (classes.Array a) vs = AreElements (kind_of_component a) vs

pub record ObjectHasShape (P : Tables) (object : Object) : Type 0 where
  pub class : HasObjects P object.class
  pub slots : AreSlots P object.class object.slots
  pub monitor : object.monitor ≡ Free

-- ---- regions

-- A region of a class. Its objects have numbers below its count; not each of these needs to be held.
pub record HasShape (P : Tables) (c : ℕ) (region : Region) : Type 0 where
  pub statics : (k : ℕ) → SuitsStatic P c k (region.fields k)
  pub objects : (n : ℕ) (object : Object) → region.pool.at n ≡ Some object → ObjectHasShape P object
  pub no_more : (n : ℕ) → region.pool.count ≤ n → region.pool.at n ≡ None
