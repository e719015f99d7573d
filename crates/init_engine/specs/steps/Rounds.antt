-- What the parts of a loop of rounds do.
use Rattle.std.specs.Prelude.{◌≡◌, ℕ, ◌≤◌, ◌⊎◌, List, [], ◌∷◌, ◌++◌, Some, None, length, replicate}
use Rattle.semantics.specs.Programs.{Program}
use Rattle.semantics.specs.Worlds.{World, Run, step}
use Rattle.init_engine.specs.declared.world.Turn.{Turn}
use Rattle.init_engine.specs.declared.world.Turn.TheVariants.{Moved, Waiting, Ended}
use Rattle.init_engine.specs.Rounds.{Asked}

-- a thread was asked: it had a step, which was recorded, or it had none
abbrev pub IsAsking : Program → World → ℕ → Turn → World → List ℕ → List ℕ → Type 0
IsAsking P w t Moved new before after = (step P w t ≡ Some new) × (after ≡ before ++ t ∷ [])
IsAsking P w t Waiting new before after = (step P w t ≡ None) × (new ≡ w) × (after ≡ before)
IsAsking P w t Ended new before after = (step P w t ≡ None) × (new ≡ w) × (after ≡ before)

-- so many threads were asked, so many steps were done, and they were recorded
pub record IsAskedSo (P : Program) (first : World) (most asked done : ℕ) (now : World) (before after : List ℕ) : Type
    0 where
  pub round : List ℕ
  pub are_asked : Asked P first most asked round now
  pub counted : length round ≡ done
  pub recorded : after ≡ before ++ round

-- rounds of one step of the only thread, if there were any
pub record IsRunAhead (P : Program) (count : ℕ) (first : World) (most done : ℕ) (now : World)
    (before after : List ℕ) : Type 0 where
  pub run : Run P first (replicate done 0) now
  pub recorded : after ≡ before ++ replicate done 0
  pub bounded : done ≤ most
  pub alone : (done ≡ 0) ⊎ (count ≡ 1)
