-- Texts that are several texts one after another.
use Rattle.std.proofs.Common.{◌≡◌, ◌⊎◌, ℕ, zero, suc, ◌+◌, ◌≤◌, List, ◌++◌, sym, subst, inl, inr}
use Rattle.std.proofs.Common.{add-one, arith}
use Rattle.explain.specs.Texts.{AreAtMost, AreEachBelow}

-- with the text of the next number
pub each_grown : (Is : ℕ → List ℕ → Type 0) (n : ℕ) (old more new : List ℕ) → AreEachBelow Is n old → Is n more
    → new ≡ old ++ more → AreEachBelow Is (n + 1) new
each_grown Is n old more new so_far one is =
    subst (λ (m : ℕ). AreEachBelow Is m new) (sym (add-one n)) (old, more, so_far, one, is)

-- with one more text
pub most_grown : (Is : List ℕ → Type 0) (n : ℕ) (old more new : List ℕ) → AreAtMost n Is old → Is more
    → new ≡ old ++ more → AreAtMost (n + 1) Is new
most_grown Is n old more new so_far one is =
    subst (λ (m : ℕ). AreAtMost m Is new) (sym (add-one n)) (inr (old, more, so_far, one, is))

-- at most so many are at most more
pub at_most_more : (Is : List ℕ → Type 0) (n most : ℕ) (text : List ℕ) → n ≤ most → AreAtMost n Is text
    → AreAtMost most Is text
at_most_more Is n zero text within few =
    (let none : n ≡ 0 = omega (arith, within) in subst (λ (m : ℕ). AreAtMost m Is text) none few)
at_most_more Is n (suc most) text within few = elim (below n most within) [
  | inl same ↦ subst (λ (m : ℕ). AreAtMost m Is text) same few
  | inr less ↦ inl (at_most_more Is n most text less few)
]
  where
    below : (n most : ℕ) → n ≤ suc most → (n ≡ suc most) ⊎ (n ≤ most)
    below n most within = grind arith
