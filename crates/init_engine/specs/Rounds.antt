-- Turns: in each round threads 0, 1, .. take one step each if they have one. It ends after a round without a step, or
-- at the limit.
use Rattle.std.specs.Prelude.{◌≡◌, ℕ, ◌+◌, ◌-◌, ◌<◌, ◌≤◌, ◌⊎◌, List, [], ◌∷◌, ◌++◌, Some, None, length}
use Rattle.semantics.specs.Programs.{Program}
use Rattle.semantics.specs.Worlds.{World, step}

-- From the first world the threads below a number were asked in order, with fewer than so many steps done before each.
-- This is the schedule of those that had a step, and it leads to this world.
pub data Asked (P : Program) (first : World) (most : ℕ) : ℕ → List ℕ → World → Type 0 where
  nobody : Asked P first most 0 [] first
  steps : {t : ℕ} {schedule : List ℕ} {w new : World} → Asked P first most t schedule w → length schedule < most
      → step P w t ≡ Some new →
      Asked P first most (t + 1) (schedule ++ t ∷ []) new
  passes : {t : ℕ} {schedule : List ℕ} {w : World} → Asked P first most t schedule w → length schedule < most
      → step P w t ≡ None →
      Asked P first most (t + 1) schedule w

-- The turns of so many threads, of at most so many steps: rounds, up to one without a step, or up to the limit in the
-- midst of one.
pub data Turns (P : Program) (count : ℕ) : ℕ → World → List ℕ → World → Type 0 where
  idle : {most : ℕ} {w last : World} → Asked P w most count [] last → Turns P count most w [] last
  limited : {most t : ℕ} {w last : World} {schedule : List ℕ} → Asked P w most t schedule last → t ≤ count
      → length schedule ≡ most → Turns P count most w schedule last
  goes_on : {most : ℕ} {w next last : World} {round rest : List ℕ} → Asked P w most count round next → 0 < length round
      → Turns P count (most - length round) next rest last →
      Turns P count most w (round ++ rest) last

-- Why turns of so many threads ended: so many steps were made, or no thread has one.
abbrev pub HasStopped : Program → ℕ → ℕ → List ℕ → World → Type 0
HasStopped P count most schedule last =
    (length schedule ≡ most) ⊎ ((t : ℕ) → t < count → step P last t ≡ None)

-- ---- turns as far as they went

-- Whole rounds of so many threads, each with a step, of at most so many steps from the first world on. This is their
-- schedule, so many steps are left, and they lead to this world.
pub data Rounds (P : Program) (count : ℕ) (first : World) (most : ℕ) : List ℕ → ℕ → World → Type 0 where
  no_rounds : Rounds P count first most [] most first
  more_rounds : {left : ℕ} {w next : World} {before round : List ℕ} → Rounds P count first most before left w
      → Asked P w left count round next → 0 < length round →
      Rounds P count first most (before ++ round) (left - length round) next

-- Turns as far as they went: whole rounds, after which so many steps are left, and of the next one the threads below a
-- number were asked, who had so many steps.
pub record TurnsSoFar (P : Program) (count : ℕ) (first : World) (most : ℕ) (schedule : List ℕ) (left asked done : ℕ)
    (now : World) : Type 0 where
  pub before : List ℕ
  pub round : List ℕ
  pub begin : World
  pub rounds : Rounds P count first most before left begin
  pub are_asked : Asked P begin left asked round now
  pub within : asked ≤ count
  pub counted : length round ≡ done
  pub joined : schedule ≡ before ++ round
