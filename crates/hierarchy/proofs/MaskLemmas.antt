-- Bits of the declarations of a window.
use Rattle.std.proofs.Common.{◌≡◌, ◌≢◌, ◌↔◌, ◌⊎◌, ◌<◌, ◌+◌, ℕ, List, Option, Some, None, length, slice_get}
use Rattle.std.proofs.Common.{Bor, is_some, ltb, refl, sym, ap, ◌∙◌, subst, inl, inr, arith}
use Rattle.std.proofs.lemmas.Bool.{cases_eq, ltb-false}
use Rattle.std.proofs.lemmas.Option.{slice_get_past}
use Rattle.hierarchy.specs.steps.DeclarationBits.{Has, IsAt}
use Rattle.hierarchy.specs.declared.declarations.Declaration.{Declaration}

-- what is not read stands past the end
pub lost_at : {X : Type 0} (xs : List X) (p : ℕ) (found : Option (Bor X)) → is_some found ≡ ltb p (length xs)
    → ((x : Bor X) → found ≢ Some x) → slice_get xs p ≡ None
lost_at {X} xs p found within none = by found refl
  where
    by : (o : Option (Bor X)) → found ≡ o → slice_get xs p ≡ None
    by (Some x) is = absurd (none x is)
    by None is = slice_get_past xs p (ltb-false p (length xs) (sym within ∙ ap is_some is))

-- ---- one more place of the window

module _ (declared : List Declaration) (start bit : ℕ) (Good : Declaration → Type 0) (old : ℕ)
    (are : (n : ℕ) → n < 64 → Has old n
    ↔ ((n < bit) × IsAt declared (start + n) Good)) where
  pub bits_next : (new : ℕ) (x : Declaration) → slice_get declared (start + bit) ≡ Some x
      → ((n : ℕ) → Has new n ↔ (Has old n ⊎ ((n ≡ bit) × Good x)))
      → (n : ℕ) → n < 64 → Has new n
      ↔ ((n < bit + 1) × IsAt declared (start + n) Good)
  bits_next new x at more n small = (
    λ has. elim ((more n).0 has) [
      | inl before ↦ (let there = (are n small).0 before in (omega (arith, there.0), there.1))
      | inr this ↦ (
        omega (arith, this.0),
        (x, subst (λ (m : ℕ). slice_get declared (start + m) ≡ Some x) (sym this.0) at, this.1),
      )
    ],
    λ there. elim (cases_eq n bit) [
      | inl same ↦
          let both : Some there.1.0 ≡ Some x =
          sym there.1.1 ∙ ap (λ (m : ℕ). slice_get declared (start + m)) same ∙ at in
          let is : there.1.0 ≡ x = cc in
          (more n).1 (inr (same, subst Good is there.1.2))
      | inr other ↦ (more n).1 (inl ((are n small).1 (below n other there.0, there.1)))
    ],
  )
    where
      below : (n : ℕ) → n ≢ bit → n < bit + 1 → n < bit
      below n other small = omega (arith, other, small)

  pub bits_past : slice_get declared (start + bit) ≡ None → (n : ℕ) → n < 64 → Has old n
      ↔ ((n < bit + 1) × IsAt declared (start + n) Good)
  bits_past none n small = (
    λ has. (let there = (are n small).0 has in (omega (arith, there.0), there.1)),
    λ there. elim (cases_eq n bit) [
      | inl same ↦ absurd (
          let clash : Some there.1.0 ≡ None =
          sym there.1.1 ∙ ap (λ (m : ℕ). slice_get declared (start + m)) same ∙ none in cc)
      | inr other ↦ (are n small).1 (below n other there.0, there.1)
    ],
  )
    where
      below : (n : ℕ) → n ≢ bit → n < bit + 1 → n < bit
      below n other small = omega (arith, other, small)
