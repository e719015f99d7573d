-- The first reason that holds of each given class by itself.
use Rattle.std.specs.Prelude.{◌≡◌, ◌↔◌, ℕ, ◌<◌, Bool, false, IsTrue, List, length, Option, None, MatchOption}
use Rattle.std.specs.Prelude.{slice_index_or}
use Rattle.program.specs.Tables.{Tables}
use Rattle.initializer_analysis.specs.declared.verdict.Reason.{Reason}
use Rattle.initializer_analysis.specs.Verdicts.{UsesAlong, IsFirstReason, NoneHolds}

-- flags tell which given classes use themselves by way of others
pub record AreOnCycles (P : Tables) (flags : List Bool) : Type 0 where
  pub count : length flags ≡ length P.classes
  pub each : (c : ℕ) → c < length P.classes → (IsTrue (slice_index_or flags c false) ↔ UsesAlong P c c)

-- of each given class the first reason, or none where none holds
pub record AreOwnReasons (P : Tables) (forced : List Bool) (reasons : List (Option Reason)) : Type 0 where
  pub count : length reasons ≡ length P.classes
  pub each : (c : ℕ) → c < length P.classes
      → MatchOption (slice_index_or reasons c None) (NoneHolds P forced c) (IsFirstReason P forced c)
