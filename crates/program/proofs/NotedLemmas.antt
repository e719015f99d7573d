-- What was noted by index.
use Rattle.std.proofs.Common.{◌≡◌, ℕ, ◌<◌, ◌≤◌, ◌⊎◌, inl, inr, List, length, get_or, set, Option, Some, None}
use Rattle.std.proofs.Common.{sym, ap, ◌∙◌, arith}
use Rattle.std.proofs.lemmas.Bool.{cases_lt}
use Rattle.std.proofs.lemmas.List.{get_or-set_same, get_or_past, length-set}
use Rattle.std.proofs.lemmas.Option.{same_Some}

-- what stands where it was noted
pub noted_is : {A : Type 0} (old : List (Option A)) (i j : ℕ) (x y : A) → j ≡ i
    → get_or (set old i (Some x)) j None ≡ Some y → y ≡ x
noted_is {A = A} old i j x y same at = by (cases_lt i (length old))
  where
    by : (i < length old) ⊎ (length old ≤ i) → y ≡ x
    by (inl within) =
        let here : get_or (set old i (Some x)) j None ≡ Some x =
        ap (λ (k : ℕ). get_or (set old i (Some x)) k None) same ∙ get_or-set_same old i (Some x) None within in
        same_Some y x (sym at ∙ here)
    by (inr past) =
        let none : get_or (set old i (Some x)) j None ≡ None =
        get_or_past (set old i (Some x)) j None (omega (arith, length-set old i (Some x), same, past)) in
        absurd (let clash : None ≡ Some y = sym none ∙ at in cc)
