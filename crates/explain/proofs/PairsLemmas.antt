-- Two of some classes, as classes come.
use Rattle.std.proofs.Common.{◌≡◌, ◌∙◌, ◌⊎◌, ℕ, Option, Some, None, refl, sym, ap, subst, inl, inr}
use Rattle.explain.specs.steps.Pairs.{HasPair}

none_some : {A : Type 0} (x : A) → None ≡ Some x → ⊥
none_some x e = absurd cc

same_some : {A : Type 0} (x y : A) → Some x ≡ Some y → x ≡ y
same_some x y e = cc

module _ (Member More : ℕ → Type 0) (c : ℕ) (keeps : (d : ℕ) → Member d → More d) (joins : More c)
    (only : (d : ℕ) → More d → Member d ⊎ (d ≡ c)) (fresh : ¬ Member c) where
  -- it comes first
  pub pair_first : (second : Option ℕ) → HasPair Member None second → HasPair More (Some c) second
  pair_first second pair = record {
    first_is = λ d e. subst More (same_some c d e) joins;
    second_is = λ d e. absurd (none d e);
    apart = λ d x e f. absurd (none x f);
    order = λ x e. (c, refl);
    some = λ d more. (c, refl);
    other = λ d more. elim (only d more) [
      | inl was ↦ absurd (let (x, e) = pair.some d was in none_some x e)
      | inr same ↦ inl (ap Some (sym same))
    ];
  }
    where
      none : (d : ℕ) → second ≡ Some d → ⊥
      none d e = (let (x, f) = pair.order d e in none_some x f)

  -- it comes second
  pub pair_second : (first : ℕ) → HasPair Member (Some first) None → HasPair More (Some first) (Some c)
  pair_second first pair = record {
    first_is = λ d e. keeps d (pair.first_is d e);
    second_is = λ d e. subst More (same_some c d e) joins;
    apart = λ d x e f same. fresh (subst Member (same ∙ sym (same_some c x f)) (pair.first_is d e));
    order = λ x e. (first, refl);
    some = λ d more. (first, refl);
    other = λ d more. inr (c, refl);
  }

  -- there are two already
  pub pair_both : (first second : ℕ) → HasPair Member (Some first) (Some second)
      → HasPair More (Some first) (Some second)
  pair_both first second pair = record {
    first_is = λ d e. keeps d (pair.first_is d e);
    second_is = λ d e. keeps d (pair.second_is d e);
    apart = pair.apart;
    order = pair.order;
    some = λ d more. (first, refl);
    other = λ d more. inr (second, refl);
  }

-- the same of the same members
pub pair_same : (Member More : ℕ → Type 0) (first second : Option ℕ) → ((d : ℕ) → Member d → More d)
    → ((d : ℕ) → More d → Member d) → HasPair Member first second → HasPair More first second
pair_same Member More first second to from pair = record {
  first_is = λ d e. to d (pair.first_is d e);
  second_is = λ d e. to d (pair.second_is d e);
  apart = pair.apart;
  order = pair.order;
  some = λ d more. pair.some d (from d more);
  other = λ d more. pair.other d (from d more);
}

-- none of no classes
pub pair_none : (Member : ℕ → Type 0) → ((d : ℕ) → ¬ Member d) → HasPair Member None None
pair_none Member none = record {
  first_is = λ d e. absurd (none_some d e);
  second_is = λ d e. absurd (none_some d e);
  apart = λ d x e f. absurd (none_some d e);
  order = λ x e. absurd (none_some x e);
  some = λ d member. absurd (none d member);
  other = λ d member. absurd (none d member);
}
