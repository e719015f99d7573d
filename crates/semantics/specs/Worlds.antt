-- Worlds, runs over schedules, what is seen of them, and the start of the lazy procedure.
use Rattle.std.specs.Prelude.{◌≡◌, ℕ, ◌+◌, List, [], ◌∷◌, Option, Some, None, ◌==◌, nat_lt, if◌then◌else◌, slice_get}
use Rattle.std.specs.Prelude.{slice_set, length}
use Rattle.std.specs.Prelude.{map}
use Rattle.built_in.specs.declared.class_id.ClassId.TheVariants.{Array}
use Rattle.built_in.specs.declared.class_id.BuiltIn.TheVariants.{String}
use Rattle.built_in.specs.declared.class_id.ElementType.TheVariants as elements
use Rattle.vm_state.specs.declared.classes.ClassState.TheVariants.{Uninitialized}
use Rattle.vm_state.specs.declared.ends.Ending.{Ending}
use Rattle.vm_state.specs.declared.ends.Ending.TheVariants as endings
use Rattle.vm_state.specs.declared.object.Object.{Object}
use Rattle.vm_state.specs.declared.object.Monitor.TheVariants.{Free}
use Rattle.vm_state.specs.Output.{Print}
use Rattle.vm_state.specs.Endings.{ending_of}
use Rattle.vm_state.specs.Statics.{zeros_of}
use Rattle.vm_state.specs.SharedState.{Pool, Region, SharedState}
use Rattle.semantics.specs.Programs.{Program}
use Rattle.semantics.specs.Steps.{Thread, Going, Ended, After, step_thread}

pub record World : Type 0 where
  pub shared : SharedState
  pub threads : List Thread

-- ---- steps and runs

abbrev pub put_thread : World → ℕ → Option After → Option World
put_thread w t None = None
put_thread w t (Some a) = Some (record { shared = a.shared; threads = slice_set w.threads t a.thread })

abbrev pub step_of : Program → World → ℕ → Option Thread → Option World
step_of P w t None = None
step_of P w t (Some thread) = put_thread w t (step_thread P t w.shared thread)

-- the world after one step of a thread, or none where it has no step. This is the atomic event.
abbrev pub step : Program → World → ℕ → Option World
step P w t = step_of P w t (slice_get w.threads t)

-- a run over a schedule, in which each thread in turn steps
abbrev pub Run : Program → World → List ℕ → World → Type 0
Run P w [] last = w ≡ last
Run P w (t ∷ ts) last = (next : World) × (step P w t ≡ Some next) × Run P next ts last

-- ---- what is seen

abbrev pub ending : Thread → Ending
ending (Going fs ls) = endings.Going
ending (Ended end) = ending_of end

-- what was printed, and for each thread how far it has come
pub record Observation : Type 0 where
  pub printed : List Print
  pub threads : List Ending

abbrev pub seen : World → Observation
seen w = record { printed = w.shared.printed; threads = map ending w.threads }

-- some schedule leads to a world in which this is seen
abbrev pub Shows : Program → World → Observation → Type 0
Shows P w s = (schedule : List ℕ) × (last : World) × Run P w schedule last × (seen last ≡ s)

-- ---- the start of the lazy procedure

abbrev pub empty_pool : Pool
empty_pool = record { count = 0; at = λ n. None }

-- the array of no strings that `main` is called with
abbrev pub argument : Object
argument = record {
  class = Array (record { dimensions = 1; element = elements.BuiltIn String });
  slots = [];
  monitor = Free;
}

abbrev pub argument_pool : Pool
argument_pool = record { count = 1; at = λ n. if n == 0 then Some argument else None }

-- statics that are zero or null, and no objects
abbrev pub blank_region : Program → ℕ → Region
blank_region P c = record { fields = zeros_of (P.statics c); pool = empty_pool }

-- threads numbered from t, each at its entry class
abbrev pub threads_from : Program → ℕ → List ℕ → List Thread
threads_from P t [] = []
threads_from P t (c ∷ cs) = Going (P.start c t ∷ []) [] ∷ threads_from P (t + 1) cs

-- no class is initialized, and each thread, whose argument is its first object, is about to need its entry class
abbrev pub lazy_start : Program → List ℕ → World
lazy_start P entries = record {
  shared = record {
    states = λ c. Uninitialized;
    regions = blank_region P;
    pools = λ t. if nat_lt t (length entries) then argument_pool else empty_pool;
    printed = [];
  };
  threads = threads_from P 0 entries;
}
