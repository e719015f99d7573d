-- The classes of each wave.
use Rattle.std.specs.Prelude.{◌≡◌, ℕ, ◌<◌, List, [], ◌∷◌, ◌++◌, length, take, slice_index, slice_index_or, slice_set}
use Rattle.std.specs.List.{Contains}
use Rattle.graph.specs.Rows.{Rows}
use Rattle.initializer_analysis.specs.declared.verdict.Verdict.{Verdict}
use Rattle.initializer_analysis.specs.declared.verdict.Verdict.TheVariants.{Wave, Refused}
use Rattle.initializer_analysis.specs.Verdicts.{HasWave}

abbrev pub members_in : Rows → ℕ → List ℕ
members_in waves n = slice_index_or waves n []

-- each is there for the first time
abbrev pub AreEachOnce : List ℕ → Type 0
AreEachOnce members = (i : ℕ) → i < length members → ¬ Contains (take i members) (slice_index members i)

-- each class of a wave once, and no others
pub record AreMembers (judged : List Verdict) (n : ℕ) (members : List ℕ) : Type 0 where
  pub has : (c : ℕ) → Contains members c → HasWave judged c n
  pub all : (c : ℕ) → HasWave judged c n → Contains members c
  pub once : AreEachOnce members

-- of each wave its classes
abbrev pub AreMembersOfAll : List Verdict → Rows → Type 0
AreMembersOfAll judged waves = (n : ℕ) → AreMembers judged n (members_in waves n)

-- ---- while they are made

-- of those below a limit
pub record AreMembersBelow (judged : List Verdict) (limit n : ℕ) (members : List ℕ) : Type 0 where
  pub has : (c : ℕ) → Contains members c → (c < limit) × HasWave judged c n
  pub all : (c : ℕ) → c < limit → HasWave judged c n → Contains members c
  pub once : AreEachOnce members

pub record AreMembersOfAllBelow (judged : List Verdict) (limit count : ℕ) (waves : Rows) : Type 0 where
  pub len : length waves ≡ count
  pub each : (n : ℕ) → AreMembersBelow judged limit n (members_in waves n)

-- a class joined its wave, if it has one
abbrev pub JoinsWave : ℕ → Verdict → Rows → Rows → Type 0
JoinsWave c (Wave n) old new = new ≡ slice_set old n (members_in old n ++ c ∷ [])
JoinsWave c (Refused reason) old new = new ≡ old
