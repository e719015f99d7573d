-- The first of a list that misses a property.
use Rattle.std.proofs.Common.{◌≡◌, ℕ, suc, ◌⊎◌, List, [], ◌∷◌, take, get_or, Some, slice_get}
use Rattle.std.proofs.Common.{refl, sym, subst, ◌∙◌, inl, inr}
use Rattle.std.specs.List.{All}
use Rattle.std.proofs.lemmas.List.Elements.{All-nil, All-cons}
use Rattle.std.proofs.lemmas.Option.{slice_get_within, slice_get-get_or, same_Some}

pub record First {X : Type 0} (P : X → Type 0) (xs : List X) : Type 0 where
  pub place : ℕ
  pub item : X
  pub is : slice_get xs place ≡ Some item
  pub misses : ¬ P item
  pub least : All P (take place xs)

pub all_or_first : {X : Type 0} (P : X → Type 0) → ((x : X) → P x ⊎ (P x → ⊥)) → (xs : List X) → All P xs ⊎ First P xs
all_or_first P decide [] = inl (All-nil P)
all_or_first P decide (x ∷ xs) =
    elim (decide x) [
      | inr bad ↦ inr (record { place = 0; item = x; is = refl; misses = bad; least = All-nil P })
      | inl here ↦
          elim (all_or_first P decide xs) [
            | inl rest ↦ inl (All-cons P x xs here rest)
            | inr late ↦ inr (record {
              place = suc late.place;
              item = late.item;
              is = late.is;
              misses = late.misses;
              least = All-cons P x (take late.place xs) here late.least;
            })
          ]
    ]

misses_all : {X : Type 0} (P : X → Type 0) (xs : List X) → First P xs → ¬ All P xs
misses_all {X} P xs first all =
    let lt = slice_get_within xs first.place first.item first.is in
    let same : get_or xs first.place first.item ≡ first.item =
    same_Some (get_or xs first.place first.item) first.item (sym (slice_get-get_or xs first.place first.item lt)
    ∙ first.is) in
    first.misses (subst P same (all first.place first.item lt))

pub all_or_not : {X : Type 0} (P : X → Type 0) → ((x : X) → P x ⊎ (P x → ⊥)) → (xs : List X)
    → All P xs ⊎ (All P xs → ⊥)
all_or_not P decide xs =
    elim (all_or_first P decide xs) [
      | inl all ↦ inl all
      | inr first ↦ inr (misses_all P xs first)
    ]
