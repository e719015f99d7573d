-- What the parts of a slice do.
use Rattle.std.specs.Prelude.{◌≡◌, ℕ, ◌+◌, ◌-◌, ◌≤◌, ◌⊎◌, Bool, true, false, List, [], ◌++◌, None, length}
use Rattle.vm_state.specs.Output.{Print}
use Rattle.semantics.specs.Programs.{Program}
use Rattle.semantics.specs.Worlds.{World, step}
use Rattle.init_engine.specs.declared.world.Turn.{Turn}
use Rattle.init_engine.specs.declared.world.Turn.TheVariants.{Moved, Waiting, Ended}
use Rattle.init_engine.specs.declared.rounds.RoundPlace.{RoundPlace}
use Rattle.init_engine.specs.declared.rounds.Allowance.{Allowance}
use Rattle.init_engine.specs.Rounds.{TurnsSoFar}
use Rattle.init_engine.specs.Turnings.{IsWithin, text_length}
use Rattle.init_engine.specs.steps.Rounds.{IsAskedSo}

-- how many steps a turn is
abbrev pub steps_of : Turn → ℕ
steps_of Moved = 1
steps_of Waiting = 0
steps_of Ended = 0

-- some steps printed these lines, of which so many bytes less may be printed
pub record PrintsBy (steps : ℕ) (before after : List Print) (had left : ℕ) : Type 0 where
  pub lines : List Print
  pub are : after ≡ before ++ lines
  pub counted : left ≡ had - text_length lines
  pub prompt : IsWithin had lines
  pub silent : steps ≡ 0 → lines ≡ []

-- a thread ran ahead: it made so many steps as it might, or no more bytes may be printed, or it has no step
abbrev pub HasRunOut : Program → World → ℕ → ℕ → ℕ → ℕ → Type 0
HasRunOut P w thread most done left = (done ≡ most) ⊎ (left ≡ 0) ⊎ (step P w thread ≡ None)

-- a place in a round of so many threads
pub record IsPlace (count : ℕ) (p : RoundPlace) : Type 0 where
  pub within : p.asked ≤ count
  pub bounded : p.done ≤ p.left
  pub few : p.done ≤ p.asked

abbrev pub to_go_from : RoundPlace → ℕ
to_go_from p = p.left - p.done

-- nothing may be done any more
abbrev pub IsSpent : Allowance → Type 0
IsSpent a = (a.steps ≡ 0) ⊎ (a.text ≡ 0)

-- steps lead from a place to another one, were recorded, and are taken from what may be done
pub record Spends (from to : RoundPlace) (before after : List ℕ) (old new : List Print) (had left : Allowance)
    : Type 0 where
  pub made : ℕ
  pub fewer_to_go : to_go_from to + made ≡ to_go_from from
  pub scheduled : length after ≡ length before + made
  pub counted : left.steps + made ≡ had.steps
  pub prints : PrintsBy made old new had.text left.text

-- what the rest of a round did, as far as it went: it is asked so further, from whatever world it began
abbrev pub AsksFurther : Program → RoundPlace → RoundPlace → World → World → List ℕ → List ℕ → Type 0
AsksFurther P from to old new before after =
    (begin : World) (rounds : List ℕ) → IsAskedSo P begin from.left from.asked from.done old rounds before
    → IsAskedSo P begin to.left to.asked to.done new rounds after

-- turns went on from a place to another one, whatever they began with
abbrev pub GoesOn : Program → ℕ → RoundPlace → RoundPlace → World → World → List ℕ → List ℕ → Type 0
GoesOn P count from to old new before after =
    (first : World) (limit : ℕ) → TurnsSoFar P count first limit before from.left from.asked from.done old
    → TurnsSoFar P count first limit after to.left to.asked to.done new

-- a round stopped: all threads were asked, the limit was reached, or the slice ended
abbrev pub HasPaused : ℕ → RoundPlace → Allowance → Type 0
HasPaused count p a = (p.asked ≡ count) ⊎ (p.done ≡ p.left) ⊎ IsSpent a

-- a last round: the limit was reached, or all threads were asked and none had a step
abbrev pub IsLast : ℕ → RoundPlace → Type 0
IsLast count p = (p.done ≡ p.left) ⊎ ((p.asked ≡ count) × (p.done ≡ 0))

-- turns paused: they are over, or the slice ended
abbrev pub HasHalted : ℕ → Bool → RoundPlace → Allowance → Type 0
HasHalted count true p a = IsLast count p
HasHalted count false p a = IsSpent a
