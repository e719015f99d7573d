-- Lists, place by place.
use Rattle.std.proofs.Common.{◌≡◌, ℕ, ◌+◌, ◌<◌, List, [], ◌∷◌, ◌++◌, length, take, map, Some}
use Rattle.std.proofs.Common.{slice_get, subst}
use Rattle.std.proofs.Common.{get_or, sym, ap, ◌∙◌, Bor, zero, suc, ◌⊎◌, inl, inr, arith}
use Rattle.std.specs.List.{All, Contains}
use Rattle.std.proofs.lemmas.List.Elements.{All-more}
use Rattle.std.proofs.lemmas.List.{take_more}
use Rattle.std.proofs.lemmas.Option.{slice_get_within, slice_get-get_or, get_or_from_slice_get, same_Some}
use Rattle.std.proofs.lemmas.Bool.{cases_lt}
use Rattle.loading.proofs.PlaceLemmas.{map_push, mapped_at, place_in, contains_at}

-- one more place
pub all_more : {A : Type 0} (P : A → Type 0) (xs : List A) (i : ℕ) (x : A) → slice_get xs i ≡ Some x
    → All P (take i xs) → P x → All P (take (i + 1) xs)
all_more {A} P xs i x at before here =
    let read : get_or xs i x ≡ x = get_or_from_slice_get xs i x x at in
    All-more P xs i x (slice_get_within xs i x at) before (subst P (sym read) here)

-- ---- items as they are read

-- what the items are
abbrev pub read_all : List (Bor (List ℕ)) → List (List ℕ)
read_all items = map (λ (item : Bor (List ℕ)). item.now) items

pub read_at : (items : List (Bor (List ℕ))) (i : ℕ) (d : Bor (List ℕ)) → i < length items
    → slice_get (read_all items) i ≡ Some (get_or items i d).now
read_at items i d within =
    mapped_at (λ (item : Bor (List ℕ)). item.now) items i (get_or items i d) (slice_get-get_or items i d within)

pub copied_more : (items : List (Bor (List ℕ))) (i : ℕ) (d : Bor (List ℕ)) (old new : List (List ℕ))
    → i < length items → old ≡ read_all (take i items) → new ≡ old ++ (get_or items i d).now ∷ []
    → new ≡ read_all (take (i + 1) items)
copied_more items i d old new small before more =
    more ∙ ap (λ (l : List (List ℕ)). l ++ (get_or items i d).now ∷ []) before
    ∙ sym (ap read_all (take_more items i d small)
    ∙ map_push (λ (item : Bor (List ℕ)). item.now) (take i items) (get_or items i d))

-- ---- the first items of a list

pub among : {A : Type 0} (xs : List A) (i : ℕ) (x : A) → Contains (take i xs) x
    → (k : ℕ) × (k < i) × (slice_get xs k ≡ Some x)
among {A} xs i x held =
    let at = place_in (take i xs) x held in
    let there = of i xs at.0 at.1 in
    (at.0, there.0, there.1)
  where
    of : (i : ℕ) (xs : List A) (k : ℕ) → slice_get (take i xs) k ≡ Some x → (k < i) × (slice_get xs k ≡ Some x)
    of zero xs k at = absurd cc
    of (suc i) [] k at = absurd cc
    of (suc i) (y ∷ ys) zero at = (omega arith, at)
    of (suc i) (y ∷ ys) (suc k) at = let rest = of i ys k at in (omega (arith, rest.0), rest.1)

pub into_among : {A : Type 0} (xs : List A) (i k : ℕ) (x : A) → k < i → slice_get xs k ≡ Some x
    → Contains (take i xs) x
into_among {A} xs i k x below at = contains_at (take i xs) k x (of i xs k below at)
  where
    of : (i : ℕ) (xs : List A) (k : ℕ) → k < i → slice_get xs k ≡ Some x → slice_get (take i xs) k ≡ Some x
    of zero xs k below at = absurd (omega arith)
    of (suc i) [] k below at = at
    of (suc i) (y ∷ ys) zero below at = at
    of (suc i) (y ∷ ys) (suc k) below at = of i ys k (omega arith) at

pub among_more : {A : Type 0} (xs : List A) (i : ℕ) (y x : A) → slice_get xs i ≡ Some y
    → Contains (take (i + 1) xs) x → Contains (take i xs) x ⊎ (x ≡ y)
among_more {A} xs i y x at held =
    let here = among xs (i + 1) x held in
    elim (cases_lt here.0 i) [
      | inl below ↦ inl (into_among xs i here.0 x below here.2)
      | inr past ↦
          let same : here.0 ≡ i = omega (arith, here.1) in
          inr (same_Some x y (sym here.2 ∙ ap (slice_get xs) same ∙ at))
    ]
