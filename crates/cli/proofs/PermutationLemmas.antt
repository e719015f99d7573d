-- Lists that are related item by item, in another order.
use Rattle.std.proofs.Common.{◌≡◌, ℕ, ◌<◌, List, [], ◌∷◌, length, map, get_or, refl, sym, ap, ◌∙◌, subst, arith}
use Rattle.std.specs.List.{All, AllZip, swap}
use Rattle.std.specs.List.Sorted.{IsPermutation}
use Rattle.std.proofs.Math.ListN.{get_or-map, length-map, set}
use Rattle.std.proofs.lemmas.List.{map-set}
use Rattle.std.proofs.lemmas.List.Elements.{All-cons, All-head, All-nil, All-tail}
use Rattle.std.proofs.lemmas.List.Sorted.{All-permutation, IsPermutation-keeps, IsPermutation-map, IsPermutation-refl}
use Rattle.std.proofs.lemmas.List.Sorted.{IsPermutation-swap, IsPermutation-trans}

map_swap : {A B : Type 0} (f : A → B) (xs : List A) (i j : ℕ) → map f (swap xs i j) ≡ swap (map f xs) i j
map_swap f [] i j = refl
map_swap {A} {B} f (x ∷ xs) i j =
    let w : List A = x ∷ xs in
    let at-i : f (get_or w i x) ≡ get_or (map f w) i (f x) = sym (get_or-map f w i x) in
    let at-j : f (get_or w j x) ≡ get_or (map f w) j (f x) = sym (get_or-map f w j x) in
    map-set f (set w i (get_or w j x)) j (get_or w i x)
    ∙ ap (λ (l : List B). set l j (f (get_or w i x))) (map-set f w i (get_or w j x))
    ∙ (λ t. set (set (map f w) i (at-j t)) j (at-i t))

-- these are made of the items in some order
abbrev AreMadeOf : {X A : Type 0} → (X → A) → List X → List A → Type 0
AreMadeOf {X} f items made = (others : List X) × (map f others ≡ made) × IsPermutation items others

-- What is made of each item stands in the order of the items.
items_moved : {X A : Type 0} (f : X → A) (items : List X) (moved : List A) → IsPermutation (map f items) moved
    → AreMadeOf f items moved
items_moved {X} {A} f items moved same =
    IsPermutation-keeps (map f items) (AreMadeOf f items) (items, refl, IsPermutation-refl items) step moved same
  where
    step : (made : List A) (i j : ℕ) → i < length made → j < length made → AreMadeOf f items made
        → AreMadeOf f items (swap made i j)
    step made i j low high (others, is, moves) =
        let long : length others ≡ length made = sym (length-map others f) ∙ ap length is in (
          swap others i j,
          map_swap f others i j ∙ ap (λ (l : List A). swap l i j) is,
          IsPermutation-trans items others (swap others i j) moves
              (IsPermutation-swap others (swap others i j) i j (omega arith) (omega arith) refl),
        )

module _ {A B : Type 0} (R : A → B → Type 0) where
  abbrev first : A × B → A
  first pair = pair.0

  abbrev second : A × B → B
  second pair = pair.1

  abbrev related : A × B → Type 0
  related pair = R pair.0 pair.1

  unzipped : (xs : List A) (ys : List B) → AllZip R xs ys
      → (pairs : List (A × B)) × (map first pairs ≡ xs) × (map second pairs ≡ ys) × All related pairs
  unzipped [] [] all = ([], refl, refl, All-nil related)
  unzipped [] (y ∷ ys) all = absurd all
  unzipped (x ∷ xs) [] all = absurd all
  unzipped (x ∷ xs) (y ∷ ys) all =
      let (pairs, firsts, seconds, each) = unzipped xs ys all.1 in (
        (x, y) ∷ pairs,
        ap (λ (l : List A). x ∷ l) firsts,
        ap (λ (l : List B). y ∷ l) seconds,
        All-cons related (x, y) pairs all.0 each,
      )

  zipped : (pairs : List (A × B)) → All related pairs → AllZip R (map first pairs) (map second pairs)
  zipped [] all = tt
  zipped (pair ∷ pairs) all = (All-head related pair pairs all, zipped pairs (All-tail related pair pairs all))

  -- items in another order have their partners in that order
  pub partners_moved : (xs moved : List A) (ys : List B) → IsPermutation xs moved → AllZip R xs ys
      → (others : List B) × AllZip R moved others × IsPermutation ys others
  partners_moved xs moved ys same all =
      let (pairs, firsts, seconds, each) = unzipped xs ys all in
      let (others, are, moves) = items_moved first pairs moved
      (subst (λ (l : List A). IsPermutation l moved) (sym firsts) same) in (
        map second others,
        subst (λ (l : List A). AllZip R l (map second others)) are
            (zipped others (All-permutation related pairs others moves each)),
        subst (λ (l : List B). IsPermutation l (map second others)) seconds
            (IsPermutation-map second pairs others moves),
      )
