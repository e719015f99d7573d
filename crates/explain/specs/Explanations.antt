-- What is told of a class.
use Rattle.std.specs.Prelude.{◌≡◌, ◌≢◌, ℕ, ◌<◌, Bool, List, length, Option, None, MatchOption, slice_get}
use Rattle.std.specs.Prelude.{slice_index_or}
use Rattle.program.specs.Tables.{Tables}
use Rattle.initializer_analysis.specs.declared.verdict.Verdict.{Verdict}
use Rattle.initializer_analysis.specs.Forced.{has_class}
use Rattle.initializer_analysis.specs.Verdicts.{UsesAlong}
use Rattle.explain.specs.declared.explaining.Explanation.{Explanation}
use Rattle.explain.specs.Chains.{IsFirstUse}
use Rattle.explain.specs.Marks.{AreShown}

-- another class that it uses, by one use or several, and that uses it so; or none where it does not use itself so
abbrev pub IsCycle : Tables → ℕ → Option ℕ → Type 0
IsCycle P c other = MatchOption other (¬ UsesAlong P c c) (λ d. (d ≢ c) × UsesAlong P c d × UsesAlong P d c)

abbrev pub AreCycles : Tables → List (Option ℕ) → Type 0
AreCycles P others = (c : ℕ) → c < length P.classes → IsCycle P c (slice_index_or others c None)

-- All that stands against a given class, where classes have these verdicts in the end: each reason that holds of it by
-- itself is told, and what is told holds.
pub record Explains (P : Tables) (verdicts : List Verdict) (at_run_time : List Bool) (paths : Bool) (c : ℕ)
    (explanation : Explanation) : Type 0 where
  pub verdict : explanation.verdict ≡ slice_get verdicts c
  pub forced : explanation.forced ≡ has_class at_run_time c
  pub marks : AreShown P paths c explanation.marks
  pub cycle : c < length P.classes → IsCycle P c explanation.cycle
  pub first : c < length P.classes → IsFirstUse P verdicts c explanation.first
