-- Which thread holds what another one may need: a class whose initialization is in progress (JVMS 5.5), or a monitor.
use Rattle.std.specs.Prelude.{ℕ, ◌==◌, if◌then◌else◌, Option, Some, None}
use Rattle.vm_state.specs.declared.classes.ClassState.{ClassState}
use Rattle.vm_state.specs.declared.classes.ClassState.TheVariants.{Uninitialized, InProgress, Initialized, Erroneous}
use Rattle.vm_state.specs.declared.object.Monitor.{Monitor as MonitorOf}
use Rattle.vm_state.specs.declared.object.Monitor.TheVariants.{Free, Owned}
use Rattle.vm_state.specs.SharedState.{SharedState, monitor_of, object_of}
use Rattle.machine.specs.declared.waiting.Trigger.{Trigger}
use Rattle.machine.specs.declared.waiting.Trigger.TheVariants.{Nothing, Class, Monitor}

-- a thread, where it is not this one
abbrev pub other_than : ℕ → ℕ → Option ℕ
other_than t u = if t == u then None else Some u

abbrev pub initializing : ℕ → ClassState → Option ℕ
initializing t Uninitialized = None
initializing t (InProgress u) = other_than t u
initializing t Initialized = None
initializing t Erroneous = None

abbrev pub owning : ℕ → MonitorOf → Option ℕ
owning t Free = None
owning t (Owned u depth) = other_than t u

-- the thread other than t that holds it
abbrev pub holder : Trigger → ℕ → SharedState → Option ℕ
holder Nothing t sh = None
holder (Class c) t sh = initializing t (sh.states c)
holder (Monitor x) t sh = owning t (monitor_of (object_of sh x))
