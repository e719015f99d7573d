-- Classes that stay at run time for others' sake.
use Rattle.std.specs.Prelude.{◌≡◌, ◌⊎◌, ℕ, ◌<◌, List, [], ◌∷◌, ◌++◌, length, Option, Some, None, MatchOption}
use Rattle.std.specs.Prelude.{slice_get, slice_index_or}
use Rattle.program.specs.Tables.{Tables}
use Rattle.use_graph.specs.Uses.{IsUse}
use Rattle.initializer_analysis.specs.declared.verdict.Reason.TheVariants as reasons
use Rattle.initializer_analysis.specs.declared.verdict.Verdict.{Verdict}
use Rattle.initializer_analysis.specs.declared.verdict.Verdict.TheVariants.{Refused}
use Rattle.initializer_analysis.specs.Verdicts.{IsAccepted, IsFirstRefused}

-- a class stays at run time since it uses another one
abbrev pub DependsOn : List Verdict → ℕ → ℕ → Type 0
DependsOn verdicts c e = slice_get verdicts c ≡ Some (Refused (reasons.DependsOn e))

-- a row of classes from one to another, of which each leads to the next
pub data Chained (Leads : ℕ → ℕ → Type 0) (c : ℕ) : List ℕ → ℕ → Type 0 where
  alone : Chained Leads c (c ∷ []) c
  on : {chain : List ℕ} {d e : ℕ} → Chained Leads c chain d → Leads d e → Chained Leads c (chain ++ e ∷ []) e

-- classes lead from one to another that depend each on the next
abbrev pub Leads : List Verdict → ℕ → ℕ → Type 0
Leads verdicts c e = (chain : List ℕ) × Chained (DependsOn verdicts) c chain e

-- each depends on the next, and the last on none, unless there are more than there are verdicts
abbrev pub IsChain : List Verdict → ℕ → List ℕ → Type 0
IsChain verdicts c chain = (last : ℕ) × Chained (DependsOn verdicts) c chain last
    × (((e : ℕ) → DependsOn verdicts last e → ⊥) ⊎ (length verdicts < length chain))

-- what a class depends on it uses
abbrev pub DependOnUses : Tables → List Verdict → Type 0
DependOnUses P verdicts = (c e : ℕ) → DependsOn verdicts c e → IsUse P c e

-- the first class that a class uses and that is not accepted, or none where all that it uses are
abbrev pub IsFirstUse : Tables → List Verdict → ℕ → Option ℕ → Type 0
IsFirstUse P verdicts c first =
    MatchOption first ((e : ℕ) → IsUse P c e → IsAccepted verdicts e) (IsFirstRefused P (IsAccepted verdicts) c)

abbrev pub AreFirstUses : Tables → List Verdict → List (Option ℕ) → Type 0
AreFirstUses P verdicts first =
    (c : ℕ) → c < length P.classes → IsFirstUse P verdicts c (slice_index_or first c None)
