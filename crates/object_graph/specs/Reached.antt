-- The objects of an image that some static field reaches.
use Rattle.std.specs.Prelude.{◌≡◌, ℕ, ◌<◌, Option, Some, None, length}
use Rattle.std.specs.List.{Contains}
use Rattle.vm_state.specs.declared.value.Value.{Value}
use Rattle.vm_state.specs.declared.value.Value.TheVariants as values
use Rattle.vm_state.specs.declared.object.Object.{Object}
use Rattle.vm_state.specs.SharedState.{Region}
use Rattle.semantics.specs.Quiet.{Environment}
use Rattle.program.specs.Tables.{Tables, statics_in}
use Rattle.object_graph.specs.declared.name_set.ObjectName.{ObjectName}

-- a reference to the object of a name
abbrev pub reference_to : ObjectName → Value
reference_to x = values.OfClass x.class x.number

abbrev pub object_among : Option Region → ℕ → Option Object
object_among None n = None
object_among (Some region) n = region.pool.at n

-- the object of a name
abbrev pub object_of : Environment → ObjectName → Option Object
object_of env x = object_among (env x.class) x.number

-- One of the first so many fields holds a reference to it.
abbrev pub IsInFields : (ℕ → Value) → ℕ → ObjectName → Type 0
IsInFields fields count x = (k : ℕ) × (k < count) × (fields k ≡ reference_to x)

-- A static field of this class holds a reference to it, and the class is initialized.
abbrev pub IsInStaticsOf : Tables → Environment → ℕ → ObjectName → Type 0
IsInStaticsOf P env c x =
    (region : Region) × (env c ≡ Some region) × IsInFields region.fields (length (statics_in P c)) x

-- A slot or an element of an object holds a reference to another object.
abbrev pub Holds : Environment → ObjectName → ObjectName → Type 0
Holds env x y = (object : Object) × (object_of env x ≡ Some object) × Contains object.slots (reference_to y)

-- The least set that has the objects that static fields hold, and those that its objects hold.
pub data IsReached (P : Tables) (env : Environment) : ObjectName → Type 0 where
  static : {x : ObjectName} (c : ℕ) → IsInStaticsOf P env c x → IsReached P env x
  held : {x y : ObjectName} → IsReached P env x → Holds env x y → IsReached P env y
