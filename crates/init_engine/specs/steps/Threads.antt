-- What a turn of one thread does, in the words of the definition.
use Rattle.std.specs.Prelude.{◌≡◌, ℕ, List, Option, Some, None}
use Rattle.vm_state.specs.SharedTables.{SharedTables}
use Rattle.vm_state.specs.Output.{Print}
use Rattle.vm_state.specs.declared.initialization.Frames.{Frames}
use Rattle.vm_state.specs.Shares.{shared_of}
use Rattle.vm_state.specs.Stacks.{segment_of, levels_of}
use Rattle.semantics.specs.Programs.{Program}
use Rattle.semantics.specs.Steps.{After, maker_of, step_thread}
use Rattle.program.specs.Tables.{Tables}
use Rattle.courses.specs.Courses.{above}
use Rattle.courses.specs.Passages.{Passage}
use Rattle.init_engine.specs.declared.world.Thread.{Thread}
use Rattle.init_engine.specs.declared.world.Thread.TheVariants.{Going, Ended}
use Rattle.init_engine.specs.declared.world.Turn.{Turn}
use Rattle.init_engine.specs.declared.world.Turn.TheVariants.{Moved, Waiting}
use Rattle.init_engine.specs.declared.world.Turn.TheVariants.{Ended as EndedTurn}
use Rattle.init_engine.specs.Threads.{thread_of}

abbrev pub IsGoing : Thread → Type 0
IsGoing (Going s) = Unit {0}
IsGoing (Ended end) = ⊥

abbrev pub HasEndedNow : Thread → Type 0
HasEndedNow (Going s) = ⊥
HasEndedNow (Ended end) = Unit {0}

-- one thread, what all share, and what was printed
pub record ThreadView : Type 0 where
  pub thread : Thread
  pub shared : SharedTables
  pub printed : List Print

abbrev pub view_of : Thread → SharedTables → List Print → ThreadView
view_of thread shared printed = record { thread = thread; shared = shared; printed = printed }

-- what a step of the thread leaves
abbrev pub stepped : Program → ℕ → ThreadView → Option After
stepped P t s = step_thread P t (shared_of s.shared s.printed) (thread_of s.thread)

abbrev pub left : ThreadView → After
left s = record { shared = shared_of s.shared s.printed; thread = thread_of s.thread }

-- where there is no step all stays as it was
abbrev pub StaysAsItWas : ThreadView → ThreadView → Type 0
StaysAsItWas old new = (thread_of new.thread ≡ thread_of old.thread) × (new.shared ≡ old.shared)
    × (new.printed ≡ old.printed)

-- a turn of thread t: one step, or none
abbrev pub IsTurnOf : Program → ℕ → Turn → ThreadView → ThreadView → Type 0
IsTurnOf P t Moved old new = stepped P t old ≡ Some (left new)
IsTurnOf P t Waiting old new = IsGoing old.thread × (stepped P t old ≡ None) × StaysAsItWas old new
IsTurnOf P t EndedTurn old new = HasEndedNow old.thread × (stepped P t old ≡ None) × StaysAsItWas old new

-- so many steps above the highest initialization
abbrev pub TopRuns : Tables → ℕ → Frames → SharedTables → Frames → SharedTables → Type 0
TopRuns P n old before new after =
    ((p : List Print) → Passage P old.thread (maker_of old.thread (levels_of old)) n (above (segment_of old) before p)
    (above (segment_of new) after p))
    × (new.thread ≡ old.thread) × (new.levels ≡ old.levels)

-- the same of a thread, where it goes on
abbrev pub RunsHere : Tables → ℕ → Thread → SharedTables → Thread → SharedTables → Type 0
RunsHere P n (Ended end) before new after = (n ≡ 0) × (new ≡ Ended end) × (after ≡ before)
RunsHere P n (Going old) before (Ended end) after = ⊥
RunsHere P n (Going old) before (Going new) after = TopRuns P n old before new after
