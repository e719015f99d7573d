-- Whether one thread goes on, and so many of a world's.
use Rattle.std.specs.Prelude.{◌≡◌, ℕ, ◌<◌, Bool, true, false, Option, Some, None, IsSome, slice_get}
use Rattle.vm_state.specs.declared.value.Name.{Name}
use Rattle.vm_state.specs.declared.classes.Usability.{Usability}
use Rattle.vm_state.specs.declared.classes.Usability.TheVariants.{Ready, Fresh, Busy, Broken}
use Rattle.vm_state.specs.Statics.{usable}
use Rattle.vm_state.specs.SharedState.{SharedState}
use Rattle.semantics.specs.Programs.{Program}
use Rattle.semantics.specs.Worlds.{World, step}
use Rattle.init_engine.specs.Rests.{HasStep}
use Rattle.init_engine.specs.Turns.{Goes}
use Rattle.init_engine.specs.declared.stuck.Rest.{Rest}
use Rattle.init_engine.specs.declared.stuck.Rest.TheVariants.{Ended, Stuck, Going}
use Rattle.init_engine.specs.steps.Threads.{ThreadView, IsGoing, HasEndedNow, stepped}

abbrev pub is_busy : Usability → Bool
is_busy Ready = false
is_busy Fresh = false
is_busy Busy = true
is_busy Broken = false

-- whether an initialization with this exception pending, and this parent left next, waits for another thread
abbrev pub waits_for : ℕ → SharedState → Option Name → Option ℕ → Bool
waits_for t sh (Some x) parent = false
waits_for t sh None None = false
waits_for t sh None (Some p) = is_busy (usable t (sh.states p))

-- a thread has ended, or has no step, or has one
abbrev pub IsThreadRest : Program → ℕ → ThreadView → Rest → Type 0
IsThreadRest P t s Ended = HasEndedNow s.thread × (stepped P t s ≡ None)
IsThreadRest P t s Stuck = IsGoing s.thread × (stepped P t s ≡ None)
IsThreadRest P t s Going = IsSome (stepped P t s)

-- the same of the thread of a number in a world
abbrev pub IsRestAt : Program → World → ℕ → Rest → Type 0
IsRestAt P w t Ended = (Goes (slice_get w.threads t) → ⊥) × (step P w t ≡ None)
IsRestAt P w t Stuck = Goes (slice_get w.threads t) × (step P w t ≡ None)
IsRestAt P w t Going = IsSome (step P w t)

-- the same of the threads below a number: all have ended, or one goes and none has a step, or one has a step
abbrev pub IsRestBelow : Program → World → ℕ → Rest → Type 0
IsRestBelow P w n Ended = ((t : ℕ) → t < n → Goes (slice_get w.threads t) → ⊥) × ((t : ℕ) → t < n → step P w t ≡ None)
IsRestBelow P w n Stuck =
    ((t : ℕ) × Goes (slice_get w.threads t)) × ((t : ℕ) → t < n → step P w t ≡ None)
IsRestBelow P w n Going = HasStep P w

-- of some threads and one more
abbrev pub joined : Rest → Rest → Rest
joined Going here = Going
joined Stuck Going = Going
joined Stuck Stuck = Stuck
joined Stuck Ended = Stuck
joined Ended here = here
