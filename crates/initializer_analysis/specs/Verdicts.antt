-- Which classes may be initialized at build time, as if no run of an initializer were refused.
use Rattle.std.specs.Prelude.{◌≡◌, ◌⊎◌, ℕ, ◌+◌, ◌<◌, ◌≤◌, Bool, true, List, length, Some, slice_get}
use Rattle.program.specs.Tables.{Tables}
use Rattle.use_graph.specs.declared.mark.Mark.{Mark}
use Rattle.use_graph.specs.declared.mark.Mark.TheVariants as marks
use Rattle.use_graph.specs.Uses.{IsUse, HasMark}
use Rattle.initializer_analysis.specs.Forced.{has_class}
use Rattle.initializer_analysis.specs.declared.verdict.Reason.{Reason}
use Rattle.initializer_analysis.specs.declared.verdict.Reason.TheVariants as reasons
use Rattle.initializer_analysis.specs.declared.verdict.Verdict.{Verdict}
use Rattle.initializer_analysis.specs.declared.verdict.Verdict.TheVariants.{Wave, Refused}

-- ---- reasons

-- a class uses another, by one use or several
pub data UsesAlong (P : Tables) (c : ℕ) : ℕ → Type 0 where
  one : {e : ℕ} → IsUse P c e → UsesAlong P c e
  more : {d e : ℕ} → UsesAlong P c d → IsUse P d e → UsesAlong P c e

-- A reason holds of a class by itself, whatever becomes of the classes that it uses, and before any initializer runs.
abbrev pub Holds : Tables → List Bool → ℕ → Reason → Type 0
Holds P forced c reasons.Forced = has_class forced c ≡ true
Holds P forced c (reasons.Marked mark) = HasMark P c mark
Holds P forced c reasons.Cycle = UsesAlong P c c
Holds P forced c _ = ⊥

abbrev pub rank_of : Mark → ℕ
rank_of marks.Prints = 2
rank_of marks.Throws = 3
rank_of marks.Monitors = 4
rank_of marks.ForeignWrite = 5
rank_of marks.ForeignRead = 6
rank_of marks.Unsupported = 7
rank_of marks.Missing = 8

-- Of several reasons the one of least rank is told.
abbrev pub rank : Reason → ℕ
rank reasons.Forced = 1
rank (reasons.Marked mark) = rank_of mark
rank reasons.Cycle = 9
rank (reasons.DependsOn e) = 10
rank reasons.Raised = 11
rank reasons.ForeignObject = 12
rank reasons.Budget = 13
rank reasons.Faulted = 14

-- the first reason that holds of a class by itself
abbrev pub IsFirstReason : Tables → List Bool → ℕ → Reason → Type 0
IsFirstReason P forced c reason =
    Holds P forced c reason × ((other : Reason) → Holds P forced c other → rank reason ≤ rank other)

abbrev pub NoneHolds : Tables → List Bool → ℕ → Type 0
NoneHolds P forced c = (reason : Reason) → ¬ Holds P forced c reason

-- ---- verdicts

abbrev pub HasWave : List Verdict → ℕ → ℕ → Type 0
HasWave verdicts c n = slice_get verdicts c ≡ Some (Wave n)

abbrev pub IsAccepted : List Verdict → ℕ → Type 0
IsAccepted verdicts c = (n : ℕ) × HasWave verdicts c n

-- the first class that a class uses and that is not accepted, where these are
abbrev pub IsFirstRefused : Tables → (ℕ → Type 0) → ℕ → ℕ → Type 0
IsFirstRefused P Accepted c e = IsUse P c e × (¬ Accepted e) × ((d : ℕ) → IsUse P c d → (¬ Accepted d) → e ≤ d)

-- A wave is above those of all that the class uses, and by no more than it must, where classes have these waves.
pub record IsWave (P : Tables) (Has : ℕ → ℕ → Type 0) (c n : ℕ) : Type 0 where
  pub above : (e : ℕ) → IsUse P c e → (m : ℕ) × Has e m × (m < n)
  pub least : (n ≡ 0) ⊎ ((e : ℕ) × IsUse P c e × (m : ℕ) × Has e m × (n ≡ m + 1))

-- What a class's verdict is, where these are the verdicts of all.
abbrev pub IsVerdict : Tables → List Bool → List Verdict → ℕ → Verdict → Type 0
IsVerdict P forced verdicts c (Wave n) = NoneHolds P forced c × IsWave P (HasWave verdicts) c n
IsVerdict P forced verdicts c (Refused (reasons.DependsOn e)) =
    NoneHolds P forced c × IsFirstRefused P (IsAccepted verdicts) c e
IsVerdict P forced verdicts c (Refused reason) = IsFirstReason P forced c reason

-- The verdicts of all given classes, by their numbers.
pub record AreVerdicts (P : Tables) (forced : List Bool) (verdicts : List Verdict) : Type 0 where
  pub count : length verdicts ≡ length P.classes
  pub each : (c : ℕ) (verdict : Verdict) → slice_get verdicts c ≡ Some verdict → IsVerdict P forced verdicts c verdict

-- ---- laws

-- There are verdicts, whatever the program is and whichever classes are forced.
abbrev pub HasVerdicts : Type 0
HasVerdicts = (P : Tables) (forced : List Bool) → (verdicts : List Verdict) × AreVerdicts P forced verdicts

-- Classes have one verdict each.
abbrev pub OneVerdict : Type 0
OneVerdict = (P : Tables) (forced : List Bool) (verdicts others : List Verdict) → AreVerdicts P forced verdicts
    → AreVerdicts P forced others → verdicts ≡ others

-- Waves fall along uses.
abbrev pub WavesFall : Type 0
WavesFall = (P : Tables) (forced : List Bool) (verdicts : List Verdict) → AreVerdicts P forced verdicts
    → (c n e : ℕ) → HasWave verdicts c n → IsUse P c e → (m : ℕ) × HasWave verdicts e m × (m < n)
