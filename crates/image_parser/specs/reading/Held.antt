-- What the machine holds where an image's text says this: value by value, under the strings of its program.
use Rattle.std.specs.Prelude.{◌≡◌, ℕ, List, ◌++◌, Option, Some, None, slice_get}
use Rattle.std.specs.List.{AllZip}
use Rattle.classfile.specs.Units.{units_text}
use Rattle.built_in.specs.declared.class_id.ClassId.{ClassId}
use Rattle.built_in.specs.declared.class_id.ClassId.TheVariants as classes
use Rattle.built_in.specs.declared.class_id.ElementType.{ElementType}
use Rattle.built_in.specs.declared.class_id.ElementType.TheVariants as elements
use Rattle.vm_state.specs.declared.object.Object.{Object}
use Rattle.vm_state.specs.declared.object.Monitor.TheVariants.{Free}
use Rattle.vm_state.specs.declared.value.Value.{Value}
use Rattle.vm_state.specs.declared.value.Value.TheVariants as machine
use Rattle.vm_state.specs.SharedState.{Pool, Region}
use Rattle.semantics.specs.Quiet.{Environment}
use Rattle.program.specs.Tables.{Tables}
use Rattle.image_format.specs.Classes.{ImageClass}
use Rattle.image_format.specs.Classes as image
use Rattle.image_format.specs.Regions.{ImageObject, ImageRegion, KeptObject}
use Rattle.image_format.specs.Values.{ImageValue}
use Rattle.image_format.specs.Values as values
use Rattle.image_format.specs.Objects.{region_in, object_with}
use Rattle.image_format.specs.Shapes.{AreUnits}

-- ---- the program

-- A program of these classes, with more strings behind those that there were.
pub record AddsStrings (P Q : Tables) : Type 0 where
  pub family : Q.family ≡ P.family
  pub classes : Q.classes ≡ P.classes
  pub added : List (List ℕ)
  pub strings : Q.strings ≡ P.strings ++ added

-- ---- values

-- the units of a string, if it is one, are so many and such as an image can say
abbrev pub HasUnits : ImageValue → Type 0
HasUnits (values.Text units) = AreUnits units
HasUnits _ = Unit {0}

-- the number of the string that the units spell
pub record HoldsText (strings : List (List ℕ)) (units : List ℕ) (v : Value) : Type 0 where
  pub number : ℕ
  pub spelled : slice_get strings number ≡ Some (units_text units)
  pub is : v ≡ machine.Text number

abbrev pub HoldsValue : List (List ℕ) → ImageValue → Value → Type 0
HoldsValue strings values.Null v = v ≡ machine.Null
HoldsValue strings (values.Int n) v = v ≡ machine.Int n
HoldsValue strings (values.Long n) v = v ≡ machine.Long n
HoldsValue strings (values.Text units) v = HoldsText strings units v
HoldsValue strings (values.Object c n) v = v ≡ machine.OfClass c n
HoldsValue strings values.Out v = v ≡ machine.Out

-- values in order
abbrev pub HoldsValues : List (List ℕ) → List ImageValue → List Value → Type 0
HoldsValues strings = AllZip (HoldsValue strings)

-- a static field, where null is in each that nothing is said of
abbrev pub HoldsField : List (List ℕ) → Option ImageValue → Value → Type 0
HoldsField strings None v = v ≡ machine.Null
HoldsField strings (Some told) v = HoldsValue strings told v

abbrev pub HoldsFields : List (List ℕ) → List ImageValue → (ℕ → Value) → Type 0
HoldsFields strings told fields = (k : ℕ) → HoldsField strings (slice_get told k) (fields k)

-- ---- objects

-- an element type by the number of its name, which is neither given nor built in
pub record HoldsElement (strings : List (List ℕ)) (name : List ℕ) (element : ElementType) : Type 0 where
  pub number : ℕ
  pub named : slice_get strings number ≡ Some name
  pub is : element ≡ elements.Unknown number

pub record HoldsArray (strings : List (List ℕ)) (dimensions : ℕ) (name : List ℕ) (class : ClassId) : Type 0 where
  pub element : ElementType
  pub holds : HoldsElement strings name element
  pub is : class ≡ classes.Array (record { dimensions = dimensions; element = element })

-- the class of an object
abbrev pub HoldsType : List (List ℕ) → ImageClass → ClassId → Type 0
HoldsType strings (image.Known told) class = class ≡ told
HoldsType strings (image.UnknownArray dimensions name) class = HoldsArray strings dimensions name class

pub record HoldsObject (strings : List (List ℕ)) (told : ImageObject) (object : Object) : Type 0 where
  pub class : HoldsType strings told.class object.class
  pub slots : HoldsValues strings told.slots object.slots
  pub monitor : object.monitor ≡ Free

-- the object of a number, if there is one
abbrev pub HoldsNumber : List (List ℕ) → Option ImageObject → Option Object → Type 0
HoldsNumber strings None object = object ≡ None
HoldsNumber strings (Some told) None = ⊥
HoldsNumber strings (Some told) (Some object) = HoldsObject strings told object

-- an object with its number
abbrev pub HoldsKept : List (List ℕ) → KeptObject → ℕ × Object → Type 0
HoldsKept strings kept o = (o.0 ≡ kept.number) × HoldsObject strings kept.object o.1

-- objects with their numbers, in order
abbrev pub HoldsKeptAll : List (List ℕ) → List KeptObject → List (ℕ × Object) → Type 0
HoldsKeptAll strings = AllZip (HoldsKept strings)

-- the objects by their numbers
abbrev pub HoldsAt : List (List ℕ) → List KeptObject → Pool → Type 0
HoldsAt strings told pool = (n : ℕ) → HoldsNumber strings (object_with told n) (pool.at n)

-- so many were made, and these are held
pub record HoldsObjects (strings : List (List ℕ)) (made : ℕ) (told : List KeptObject) (pool : Pool) : Type 0 where
  pub count : pool.count ≡ made
  pub each : HoldsAt strings told pool

-- ---- regions

pub record HoldsRegion (strings : List (List ℕ)) (told : ImageRegion) (region : Region) : Type 0 where
  pub fields : HoldsFields strings told.statics region.fields
  pub objects : HoldsObjects strings told.count told.objects region.pool

-- the region of a class, if it is initialized
abbrev pub HoldsClass : List (List ℕ) → Option ImageRegion → Option Region → Type 0
HoldsClass strings None region = region ≡ None
HoldsClass strings (Some told) None = ⊥
HoldsClass strings (Some told) (Some region) = HoldsRegion strings told region

abbrev pub HoldsRegions : List (List ℕ) → List (Option ImageRegion) → Environment → Type 0
HoldsRegions strings told env = (c : ℕ) → HoldsClass strings (region_in told c) (env c)
