-- What all threads share, as functions of classes, fields and names: the statics, the objects, how many objects each
-- maker made, the states of the classes (JVMS 5.5), and what was printed.
use Rattle.std.specs.Prelude.{ℕ, ◌+◌, Bool, false, List, [], ◌∷◌, ◌++◌, Option, Some, None, ◌==◌, if◌then◌else◌}
use Rattle.std.specs.Prelude.{length, option_map, slice_set}
use Rattle.vm_state.specs.declared.value.Value.{Value}
use Rattle.vm_state.specs.declared.value.Name.{Name}
use Rattle.vm_state.specs.declared.value.Maker.{Maker}
use Rattle.vm_state.specs.declared.value.Maker.TheVariants.{Class, Thread}
use Rattle.built_in.specs.declared.class_id.ClassId.{ClassId}
use Rattle.vm_state.specs.declared.object.Object.{Object}
use Rattle.vm_state.specs.declared.object.Monitor.{Monitor}
use Rattle.vm_state.specs.declared.object.Monitor.TheVariants.{Free}
use Rattle.vm_state.specs.declared.classes.ClassState.{ClassState}
use Rattle.vm_state.specs.Output.{Print}

-- the objects of one maker, by their numbers
pub record Pool : Type 0 where
  pub count : ℕ
  pub at : ℕ → Option Object

-- what belongs to one class: its statics, and the objects that were made during its initialization
pub record Region : Type 0 where
  pub fields : ℕ → Value
  pub pool : Pool

pub record SharedState : Type 0 where
  pub states : ℕ → ClassState
  pub regions : ℕ → Region
  pub pools : ℕ → Pool
  pub printed : List Print

abbrev pub same_maker : Maker → Maker → Bool
same_maker (Class c) (Class d) = c == d
same_maker (Thread t) (Thread u) = t == u
same_maker (Class c) (Thread t) = false
same_maker (Thread t) (Class c) = false

-- ---- pools

abbrev pub with_object : Pool → ℕ → Option Object → Pool
with_object p n o = record p { at = λ k. if k == n then o else p.at k }

-- the class of the object of a number
abbrev pub class_at : Pool → ℕ → Option ClassId
class_at p n = option_map (λ (o : Object). o.class) (p.at n)

-- the slots of the object of a number
abbrev pub slots_at : Pool → ℕ → Option (List Value)
slots_at p n = option_map (λ (o : Object). o.slots) (p.at n)

-- the class of the object of a number, and how many slots it has
abbrev pub form_at : Pool → ℕ → Option (ClassId × ℕ)
form_at p n = option_map (λ (o : Object). (o.class, length o.slots)) (p.at n)

abbrev pub object_with_slot : ℕ → Value → Object → Object
object_with_slot i v o = record o { slots = slice_set o.slots i v }

-- the pool with another value in a slot, where the object has that slot
abbrev pub with_slot : Pool → ℕ → ℕ → Value → Pool
with_slot p n i v = with_object p n (option_map (object_with_slot i v) (p.at n))

abbrev pub object_with_monitor : Monitor → Object → Object
object_with_monitor m o = record o { monitor = m }

-- the pool with another monitor of an object
abbrev pub with_monitor : Pool → ℕ → Monitor → Pool
with_monitor p n m = with_object p n (option_map (object_with_monitor m) (p.at n))

-- an object that is not held counts as free
abbrev pub monitor_of : Option Object → Monitor
monitor_of None = Free
monitor_of (Some o) = o.monitor

-- the pool with a new object, whose number is the old count
abbrev pub with_new : Pool → ClassId → List Value → Pool
with_new p class slots = record {
  count = p.count + 1;
  at = λ k. if k == p.count then Some (record { class = class; slots = slots; monitor = Free }) else p.at k;
}

-- ---- all that is shared

abbrev pub pool_of : SharedState → Maker → Pool
pool_of sh (Class c) = (sh.regions c).pool
pool_of sh (Thread t) = sh.pools t

abbrev pub set_region : SharedState → ℕ → Region → SharedState
set_region sh c r = record sh { regions = λ d. if d == c then r else sh.regions d }

abbrev pub set_pool : SharedState → Maker → Pool → SharedState
set_pool sh m p = record sh {
  regions = λ c. if same_maker m (Class c) then record (sh.regions c) { pool = p } else sh.regions c;
  pools = λ t. if same_maker m (Thread t) then p else sh.pools t;
}

abbrev pub set_state : SharedState → ℕ → ClassState → SharedState
set_state sh c s = record sh { states = λ d. if d == c then s else sh.states d }

abbrev pub with_field : Region → ℕ → Value → Region
with_field r f v = record r { fields = λ g. if g == f then v else r.fields g }

-- with another value of a static field
abbrev pub with_static : SharedState → ℕ → ℕ → Value → SharedState
with_static sh c f v = set_region sh c (with_field (sh.regions c) f v)

-- the name of a maker's next object
abbrev pub next_name : SharedState → Maker → Name
next_name sh m = record { maker = m; number = (pool_of sh m).count }

-- with a maker's next object
abbrev pub made : SharedState → Maker → ClassId → List Value → SharedState
made sh m class slots = set_pool sh m (with_new (pool_of sh m) class slots)

-- the object of a name
abbrev pub object_of : SharedState → Name → Option Object
object_of sh name = (pool_of sh name.maker).at name.number

abbrev pub with_print : SharedState → Print → SharedState
with_print sh line = record sh { printed = sh.printed ++ line ∷ [] }
