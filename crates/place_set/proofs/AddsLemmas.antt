-- Lists to which places were added, one part after the other.
use Rattle.std.proofs.Common.{◌≡◌, ◌∙◌, ◌⊎◌, inl, inr, ℕ, ◌+◌, ◌<◌, ◌≤◌, List, [], ◌∷◌, ◌++◌, length, take, get_or}
use Rattle.std.proofs.Common.{Some, None, slice_get, refl, sym, ap, subst, arith}
use Rattle.std.specs.List.{Contains}
use Rattle.std.proofs.lemmas.Bool.{cases_lt}
use Rattle.std.proofs.lemmas.List.{length_push, get_or_append_left, take_more, take_all}
use Rattle.std.proofs.lemmas.List.Elements.{Contains-push, Contains-push_cases, Contains-append_left}
use Rattle.std.proofs.lemmas.Option.{slice_get-get_or, slice_get_past}
use Rattle.place_set.specs.declared.set.Place.{Place}
use Rattle.place_set.specs.steps.Adds.{Adds}

-- ---- nothing, and one place

pub adds_none : (places : List Place) (these : Place → Type 0) → ((x : Place) → these x → ⊥)
    → Adds places these places
adds_none places these none = record {
  grows = omega arith;
  same = λ k low. refl;
  keeps = λ x has. has;
  added = λ x h. absurd (none x h);
  only = λ x has. inl has;
}

pub adds_known : (places : List Place) (place : Place) → Contains places place
    → Adds places (λ x. x ≡ place) places
adds_known places place known = record {
  grows = omega arith;
  same = λ k low. refl;
  keeps = λ x has. has;
  added = λ x e. subst (λ y. Contains places y) (sym e) known;
  only = λ x has. inl has;
}

pushed_same : (places : List Place) (place : Place) (k : ℕ) → k < length places
    → slice_get (places ++ place ∷ []) k ≡ slice_get places k
pushed_same places place k low =
    slice_get-get_or (places ++ place ∷ []) k place (omega (arith, length_push places place))
    ∙ ap (λ y. Some y) (get_or_append_left places (place ∷ []) place k low)
    ∙ sym (slice_get-get_or places k place low)

pub adds_new : (places new : List Place) (place : Place) → new ≡ places ++ place ∷ []
    → Adds places (λ x. x ≡ place) new
adds_new places new place pushed = rw pushed (record {
  grows = omega (arith, length_push places place);
  same = λ k low. pushed_same places place k low;
  keeps = λ x has. Contains-append_left places (place ∷ []) x has;
  added = λ x e. subst (λ y. Contains (places ++ place ∷ []) y) (sym e) (Contains-push places place);
  only = λ x has. elim (Contains-push_cases places place x has) [ inl old ↦ inl old | inr e ↦ inr (sym e) ];
})

-- ---- one part after the other

pub adds_then : (old mid new : List Place) (first second both : Place → Type 0) → Adds old first mid
    → Adds mid second new → ((x : Place) → both x → first x ⊎ second x)
    → ((x : Place) → first x → both x) → ((x : Place) → second x → both x) → Adds old both new
adds_then old mid new first second both a b split left right = record {
  grows = omega (arith, a.grows, b.grows);
  same = λ k low. b.same k (omega (arith, a.grows)) ∙ a.same k low;
  keeps = λ x has. b.keeps x (a.keeps x has);
  added = λ x h. elim (split x h) [ inl one ↦ b.keeps x (a.added x one) | inr other ↦ b.added x other ];
  only = λ x has. elim (b.only x has) [
    | inl before ↦ elim (a.only x before) [ inl was ↦ inl was | inr one ↦ inr (left x one) ]
    | inr other ↦ inr (right x other)
  ];
}

pub adds_same : (old new : List Place) (these those : Place → Type 0)
    → ((x : Place) → these x → those x) → ((x : Place) → those x → these x) → Adds old these new
    → Adds old those new
adds_same old new these those there back a = record {
  grows = a.grows;
  same = a.same;
  keeps = a.keeps;
  added = λ x h. a.added x (back x h);
  only = λ x has. elim (a.only x has) [ inl was ↦ inl was | inr one ↦ inr (there x one) ];
}
