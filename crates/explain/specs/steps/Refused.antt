-- What verdicts say of a class.
use Rattle.std.specs.Prelude.{ℕ, Bool, true, false, Option, Some, None}
use Rattle.initializer_analysis.specs.declared.verdict.Reason.TheVariants as reasons
use Rattle.initializer_analysis.specs.declared.verdict.Verdict.{Verdict}
use Rattle.initializer_analysis.specs.declared.verdict.Verdict.TheVariants.{Wave, Refused}

-- whether it is not accepted
abbrev pub is_refused : Verdict → Bool
is_refused (Wave n) = false
is_refused (Refused reason) = true

-- the class on which it depends
abbrev pub depended : Verdict → Option ℕ
depended (Refused (reasons.DependsOn e)) = Some e
depended _ = None
