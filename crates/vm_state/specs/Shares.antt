-- The shared state that the machine's own tables stand for.
use Rattle.std.specs.Prelude.{◌≡◌, ℕ, List, []}
use Rattle.vm_state.specs.declared.classes.StaticField.{StaticField}
use Rattle.built_in.specs.declared.class_id.ClassId.{ClassId}
use Rattle.vm_state.specs.declared.classes.ClassState.{ClassState}
use Rattle.vm_state.specs.declared.classes.ClassState.TheVariants.{InProgress, Initialized}
use Rattle.vm_state.specs.SharedTables.{SharedTables}
use Rattle.vm_state.specs.Output.{Print}
use Rattle.vm_state.specs.declared.value.Maker.{Maker}
use Rattle.vm_state.specs.declared.value.Name.{Name}
use Rattle.vm_state.specs.declared.value.Value.{Value}
use Rattle.vm_state.specs.Statics.{states_of, fields_of, field_in, with_constants}
use Rattle.vm_state.specs.SharedState.{Region, SharedState, made, next_name, set_region, set_state, with_static}
use Rattle.vm_state.specs.Objects.{HeldObjects, none_held}
use Rattle.vm_state.specs.Pools.{pool_by, pool_in}

-- the tables and what was printed, as one state
unfoldable pub shared_of : SharedTables → List Print → SharedState
shared_of s printed = record {
  states = states_of s.classes;
  regions = λ c. record { fields = fields_of s.classes c; pool = pool_in s.heap.classes c };
  pools = pool_in s.heap.threads;
  printed = printed;
}

-- a class's initialization begins (JVMS 5.5, step 6): it is in progress by the thread, and its constants are set
abbrev pub begun : SharedState → ℕ → ℕ → List StaticField → SharedState
begun sh c t statics =
    set_state (set_region sh c (record (sh.regions c) { fields = with_constants statics (sh.regions c).fields })) c
    (InProgress t)

-- the region of these static fields and objects
abbrev pub region_by : List Value → HeldObjects → Region
region_by fields held = record { fields = field_in fields; pool = pool_by held }

-- no field was set and no object made
abbrev pub empty_region : Region
empty_region = region_by [] none_held

-- a class is initialized, with this region
abbrev pub initialized : SharedState → ℕ → Region → SharedState
initialized sh c r = set_state (set_region sh c r) c Initialized

-- ---- what a call changed, whatever was printed before

-- all is as it was
abbrev pub SharesTheSame : SharedTables → SharedTables → Type 0
SharesTheSame old new = (p : List Print) → shared_of new p ≡ shared_of old p

-- a static field has another value
abbrev pub SetsField : SharedTables → SharedTables → ℕ → ℕ → Value → Type 0
SetsField old new c f v = (p : List Print) → shared_of new p ≡ with_static (shared_of old p) c f v

-- a class is in this state
abbrev pub SetsState : SharedTables → SharedTables → ℕ → ClassState → Type 0
SetsState old new c s = (p : List Print) → shared_of new p ≡ set_state (shared_of old p) c s

-- a class's initialization began
abbrev pub Begins : SharedTables → SharedTables → ℕ → ℕ → List StaticField → Type 0
Begins old new c t statics = (p : List Print) → shared_of new p ≡ begun (shared_of old p) c t statics

-- a class is initialized, with these static fields and objects
abbrev pub Initializes : SharedTables → SharedTables → ℕ → List Value → HeldObjects → Type 0
Initializes old new c fields held =
    (p : List Print) → shared_of new p
    ≡ initialized (shared_of old p) c (region_by fields held)

-- a maker has one more object
abbrev pub Makes : SharedTables → SharedTables → Maker → ClassId → List Value → Type 0
Makes old new maker class slots = (p : List Print) → shared_of new p ≡ made (shared_of old p) maker class slots

-- the name of the next object of a maker
abbrev pub IsNextName : SharedTables → Maker → Name → Type 0
IsNextName s maker name = (p : List Print) → name ≡ next_name (shared_of s p) maker
