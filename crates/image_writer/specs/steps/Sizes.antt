-- Counts that fit the numbers before them: what writing needs to know of a program and its regions.
use Rattle.std.specs.Prelude.{◌≡◌, ℕ, ◌<◌, ◌^◌, List, length, Some}
use Rattle.std.specs.List.{All}
use Rattle.built_in.specs.declared.class_id.ClassId.{ClassId}
use Rattle.vm_state.specs.declared.value.Value.{Value}
use Rattle.vm_state.specs.declared.value.Value.TheVariants as values
use Rattle.vm_state.specs.declared.object.Object.{Object}
use Rattle.vm_state.specs.declared.object.Monitor.TheVariants.{Free}
use Rattle.vm_state.specs.SharedState.{Region}
use Rattle.semantics.specs.Quiet.{elements_in}
use Rattle.program.specs.Programs.{IsProgram}
use Rattle.program.specs.Tables.{Tables}
use Rattle.region_shape.specs.Laws.{IsFromFile}
use Rattle.image_format.specs.Names.{name_of_class}
use Rattle.image_format.specs.Told.{told_class}

-- a program of class files
pub record HasFiles (P : Tables) : Type 0 where
  pub program : IsProgram P
  pub files : (c : ℕ) → IsFromFile P c

-- the number of an object
abbrev pub IsSizedValue : Value → Type 0
IsSizedValue (values.OfClass c n) = n < 2 ^ 32
IsSizedValue _ = Unit {0}

pub record IsSizedObject (P : Tables) (object : Object) : Type 0 where
  pub name : length (name_of_class P.family (told_class P.strings object.class)) < 2 ^ 16
  pub elements : elements_in object.class object.slots < 2 ^ 32
  pub slots : All IsSizedValue object.slots

-- an object by its class and slots: texts say nothing of monitors
abbrev pub object_by : ClassId → List Value → Object
object_by class slots = record { class = class; slots = slots; monitor = Free }

pub record IsSizedRegion (P : Tables) (region : Region) : Type 0 where
  pub statics : (k : ℕ) → IsSizedValue (region.fields k)
  pub objects : (n : ℕ) (object : Object) → region.pool.at n ≡ Some object → IsSizedObject P object
