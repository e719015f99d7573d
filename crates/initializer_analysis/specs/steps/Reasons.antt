-- Reasons of given classes, added by their ranks.
use Rattle.std.specs.Prelude.{◌≡◌, ◌⊎◌, ℕ, ◌<◌, ◌≤◌, Bool, List, length, Option, Some, None, slice_index_or}
use Rattle.program.specs.Tables.{Tables}
use Rattle.initializer_analysis.specs.declared.verdict.Reason.{Reason}
use Rattle.initializer_analysis.specs.Verdicts.{Holds, IsFirstReason, rank}

-- where nothing was told of a class, this reason is, if it is there
abbrev pub IsNext : Type 0 → Reason → Option Reason → Option Reason → Type 0
IsNext Is reason (Some known) new = new ≡ Some known
IsNext Is reason None new = (Is × (new ≡ Some reason)) ⊎ ((¬ Is) × (new ≡ None))

-- of each class of a list
pub record AddsReason (Is : ℕ → Type 0) (reason : Reason) (old new : List (Option Reason)) : Type 0 where
  pub len : length new ≡ length old
  pub each : (c : ℕ) → c < length old
      → IsNext (Is c) reason (slice_index_or old c None) (slice_index_or new c None)

-- the first reason, as far as those below a rank tell
abbrev pub IsFirstBelow : Tables → List Bool → ℕ → ℕ → Option Reason → Type 0
IsFirstBelow P forced limit c (Some reason) = IsFirstReason P forced c reason
IsFirstBelow P forced limit c None = (reason : Reason) → Holds P forced c reason → limit ≤ rank reason

pub record AreFirstBelow (P : Tables) (forced : List Bool) (limit : ℕ) (reasons : List (Option Reason)) : Type 0 where
  pub count : length reasons ≡ length P.classes
  pub each : (c : ℕ) → c < length P.classes → IsFirstBelow P forced limit c (slice_index_or reasons c None)
