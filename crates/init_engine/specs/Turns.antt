-- Worlds as the definition has them, and what a turn of a thread answers.
use Rattle.std.specs.Prelude.{◌≡◌, ◌⊎◌, ℕ, List, [], ◌∷◌, ◌++◌, map, Option, Some, None, slice_get}
use Rattle.vm_state.specs.Output.{Print}
use Rattle.vm_state.specs.Shares.{shared_of}
use Rattle.semantics.specs.Programs.{Program}
use Rattle.semantics.specs.Steps.{Thread as DefinedThread, Going as IsGoingOn, Ended as HasEnded}
use Rattle.semantics.specs.Worlds.{World, step}
use Rattle.init_engine.specs.declared.world.Turn.{Turn}
use Rattle.init_engine.specs.declared.world.Turn.TheVariants.{Moved, Waiting, Ended}
use Rattle.init_engine.specs.Standing.{Standing}
use Rattle.init_engine.specs.Threads.{thread_of}

abbrev pub world_of : Standing → World
world_of s = record { shared = shared_of s.shared s.printed; threads = map thread_of s.threads }

abbrev pub Goes : Option DefinedThread → Type 0
Goes None = ⊥
Goes (Some (IsGoingOn fs ls)) = Unit {0}
Goes (Some (HasEnded end)) = ⊥

abbrev pub IsOver : Option DefinedThread → Type 0
IsOver None = ⊥
IsOver (Some (IsGoingOn fs ls)) = ⊥
IsOver (Some (HasEnded end)) = Unit {0}

-- Moved: the thread has a step, and the new world is the one after it. Waiting: it has not ended and has no step.
-- Ended: it has ended. In the latter two the world is as it was.
abbrev pub IsTurn : Program → World → ℕ → Turn → World → Type 0
IsTurn P w t Moved new = step P w t ≡ Some new
IsTurn P w t Waiting new = Goes (slice_get w.threads t) × (step P w t ≡ None) × (new ≡ w)
IsTurn P w t Ended new = IsOver (slice_get w.threads t) × (step P w t ≡ None) × (new ≡ w)

-- What a turn printed: a step prints one line at most.
abbrev pub Prints : Turn → List Print → List Print → Type 0
Prints Moved old new = (new ≡ old) ⊎ ((line : Print) × (new ≡ old ++ line ∷ []))
Prints Waiting old new = new ≡ old
Prints Ended old new = new ≡ old
