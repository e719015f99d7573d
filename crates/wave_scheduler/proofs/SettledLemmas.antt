-- What is at hand in a wave, and which wave a class has.
use Rattle.std.proofs.Common.{◌≡◌, ℕ, zero, suc, ◌<◌, ◌≤◌, Bool, true, false, List, [], ◌∷◌, length, Option}
use Rattle.std.proofs.Common.{Some, None, if◌then◌else◌, refl, sym, ap, subst, ◌∙◌, inl, inr, arith, lt-ltb}
use Rattle.std.proofs.Common.{slice_get}
use Rattle.std.specs.List.{Contains}
use Rattle.std.specs.Prelude.{nat_lt}
use Rattle.std.proofs.lemmas.Bool.{ltb-true}
use Rattle.std.proofs.lemmas.Option.{slice_get_within}
use Rattle.vm_state.specs.SharedState.{Region}
use Rattle.semantics.specs.Acceptance.{Analysis, above, Over}
use Rattle.semantics.specs.Acceptance as acceptance
use Rattle.program.specs.Tables.{Tables}
use Rattle.initializer_analysis.specs.Verdicts.{IsWave}
use Rattle.wave_scheduler.specs.Settled.{Outcome, Wave, Refused, Stopped, Settled, HasWave, region_in, if_below, below}
use Rattle.wave_scheduler.specs.Settled.{AreSettled}
use Rattle.wave_scheduler.specs.Laws.{IsAnalysis}
use Rattle.initializer_analysis.proofs.ReachesLemmas.{in_none, in_rest, first_or_rest}

-- ---- what is at hand

pub same_wave : (S : Settled) (c m n : ℕ) → HasWave S c m → HasWave S c n → m ≡ n
same_wave S c m n first second =
    (let two : Some (Wave m) ≡ Some (Wave n) = sym first ∙ second in let one : Wave m ≡ Wave n = cc in cc)

pub below_there : (S : Settled) (n d m : ℕ) (r : Region) → HasWave S d m → region_in S d ≡ Some r → m < n
    → below S n d ≡ Some r
below_there S n d m r at here less = rw at (rw (lt-ltb m n less) here)

-- a region that is at hand is that of an accepted class of a lower wave
pub from_below : (S : Settled) (n d : ℕ) (r : Region) → below S n d ≡ Some r
    → (m : ℕ) × HasWave S d m × (m < n) × (region_in S d ≡ Some r)
from_below S n d r = by (slice_get S.outcomes d) refl
  where
    by_test : (m : ℕ) (b : Bool) → nat_lt m n ≡ b → slice_get S.outcomes d ≡ Some (Wave m)
        → (if b then region_in S d else None) ≡ Some r
        → (k : ℕ) × HasWave S d k × (k < n) × (region_in S d ≡ Some r)
    by_test m true less at is = (m, at, ltb-true m n less, is)
    by_test m false less at is = cc

    by : (o : Option Outcome) → slice_get S.outcomes d ≡ o → if_below n o (region_in S d) ≡ Some r
        → (m : ℕ) × HasWave S d m × (m < n) × (region_in S d ≡ Some r)
    by None at is = cc
    by (Some (Refused reason)) at is = cc
    by (Some (Stopped why)) at is = cc
    by (Some (Wave m)) at is = by_test m (nat_lt m n) refl at is

-- ---- waves

wave_if : Option Outcome → ℕ
wave_if None = 0
wave_if (Some (Wave n)) = n
wave_if (Some (Refused reason)) = 0
wave_if (Some (Stopped why)) = 0

wave_in : Settled → ℕ → ℕ
wave_in S c = wave_if (slice_get S.outcomes c)

wave_in-is : (S : Settled) (c n : ℕ) → HasWave S c n → wave_in S c ≡ n
unfolding wave_if wave_in
wave_in-is S c n at = ap wave_if at

above_least : (wave : ℕ → ℕ) (cs : List ℕ) (n : ℕ) → ((d : ℕ) → Contains cs d → wave d < n) → above wave cs ≤ n
above_least wave [] n under = omega arith
above_least wave (c ∷ cs) n under =
    let first = under c (0, omega arith, refl) in
    let rest = above_least wave cs n (λ d at. under d (in_rest d c cs at)) in
    omega arith

above_each : (wave : ℕ → ℕ) (cs : List ℕ) (d : ℕ) → Contains cs d → wave d < above wave cs
above_each wave [] d at = absurd (in_none d at)
above_each wave (c ∷ cs) d at = elim (first_or_rest d c cs at) [
  | inl same ↦ omega (arith, ap wave same)
  | inr later ↦ omega (arith, above_each wave cs d later)
]

module _ (P : Tables) (forced : List Bool) (budget : ℕ) (S : Settled) (A : Analysis)
    (are : AreSettled P forced budget S) (is : IsAnalysis P forced budget A) where
  -- a class of a wave is one of the program
  pub is_class : (c n : ℕ) → HasWave S c n → c < length P.classes
  is_class c n at = (let low = slice_get_within S.outcomes c (Wave n) at in omega (arith, are.count))

  same_above : (c n : ℕ) → c < length P.classes → IsWave P (HasWave S) c n → above (wave_in S) (A.uses c) ≡ n
  same_above c n low wave = elim wave.least [
    | inl none ↦ (let most = above_least (wave_in S) (A.uses c) n under in omega arith)
    | inr (e, used, m, at, is_next) ↦ (let most = above_least (wave_in S) (A.uses c) n under in
        let least = above_each (wave_in S) (A.uses c) e ((is.uses c e low).1 used) in
        omega (arith, wave_in-is S e m at))
  ]
    where
      under : (d : ℕ) → Contains (A.uses c) d → wave_in S d < n
      under d at = (let (m, here, less) = wave.above d ((is.uses c d low).0 at) in omega (arith, wave_in-is S d m here))

  wave_below : (limit c n : ℕ) → n < limit → c < length P.classes → IsWave P (HasWave S) c n
      → acceptance.IsWave A.uses c n
  wave_below zero c n small low wave = absurd (omega arith)
  wave_below (suc limit) c n small low wave =
      subst (acceptance.IsWave A.uses c) (same_above c n low wave)
      (Over c (wave_in S) (λ d at. (let (m, here, less) = wave.above d ((is.uses c d low).0 at) in
      subst (acceptance.IsWave A.uses d) (sym (wave_in-is S d m here))
      (wave_below limit d m (omega arith) (is_class d m here) (are.each d (Wave m) here).1))))

  -- The wave of a class is that which its uses give it.
  pub wave_is : (c n : ℕ) → c < length P.classes → IsWave P (HasWave S) c n → acceptance.IsWave A.uses c n
  wave_is c n low wave = wave_below (suc n) c n (omega arith) low wave

  pub accepted_wave : (c n : ℕ) → HasWave S c n → acceptance.IsWave A.uses c n
  accepted_wave c n at = wave_is c n (is_class c n at) (are.each c (Wave n) at).1
