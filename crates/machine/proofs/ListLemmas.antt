-- Places in lists: of elements in pairs, and of the first element that passes.
use Rattle.std.proofs.Common.{◌≡◌, ℕ, zero, suc, ◌+◌, Bool, true, false, ◌&&◌, List, [], ◌∷◌, Some, slice_get, refl}
use Rattle.std.proofs.Common.{subst, arith}
use Rattle.std.specs.List.{AllZip, position_from}

pub left_of_pair : {A B : Type 0} (R : A → B → Type 0) (xs : List A) (ys : List B) (i : ℕ) (y : B) → AllZip R xs ys
    → slice_get ys i ≡ Some y
    → (x : A) × (slice_get xs i ≡ Some x) × R x y
left_of_pair R [] [] i y all h = absurd cc
left_of_pair R [] (b ∷ bs) i y all h = absurd all
left_of_pair R (a ∷ rest) [] i y all h = absurd all
left_of_pair R (a ∷ rest) (b ∷ bs) zero y all h = let same : b ≡ y = cc in (a, refl, subst (R a) same all.0)
left_of_pair R (a ∷ rest) (b ∷ bs) (suc i) y all h = left_of_pair R rest bs i y all.1 h

pub right_of_pair : {A B : Type 0} (R : A → B → Type 0) (xs : List A) (ys : List B) (i : ℕ) (x : A) → AllZip R xs ys
    → slice_get xs i ≡ Some x
    → (y : B) × (slice_get ys i ≡ Some y) × R x y
right_of_pair R [] [] i x all h = absurd cc
right_of_pair R [] (b ∷ bs) i x all h = absurd all
right_of_pair R (a ∷ rest) [] i x all h = absurd all
right_of_pair R (a ∷ rest) (b ∷ bs) zero x all h = let same : a ≡ x = cc in (b, refl, subst (λ z. R z b) same all.0)
right_of_pair R (a ∷ rest) (b ∷ bs) (suc i) x all h = right_of_pair R rest bs i x all.1 h

-- the first place from i on that a search gives
record IsFound {X : Type 0} (p : X → Bool) (xs : List X) (i m : ℕ) : Type 0 where
  place : ℕ
  item : X
  far : m ≡ i + place
  stands : slice_get xs place ≡ Some item
  passes : p item ≡ true

passes_from : {X : Type 0} (p : X → Bool) (xs : List X) (i m : ℕ) → position_from p i xs ≡ Some m → IsFound p xs i m
passes_from p [] i m e = absurd cc
passes_from {X = X} p (x ∷ xs) i m e = by (p x) refl (passes_from p xs (i + 1) m)
  where
    by : (b : Bool) → p x ≡ b → (position_from p (i + 1) xs ≡ Some m → IsFound p xs (i + 1) m) → IsFound p (x ∷ xs) i m
    by true passed further =
        let here : Some i ≡ Some m = rw passed at e in
        let same : i ≡ m = cc in
        record { place = zero; item = x; far = omega arith; stands = refl; passes = passed }
    by false failed further =
        let there : position_from p (i + 1) xs ≡ Some m = rw failed at e in
        let found = further there in
        record {
          place = suc found.place;
          item = found.item;
          far = omega (arith, found.far);
          stands = found.stands;
          passes = found.passes;
        }

pub first_passes : {X : Type 0} (p : X → Bool) (xs : List X) (m : ℕ) → position_from p 0 xs ≡ Some m
    → (x : X) × (slice_get xs m ≡ Some x) × (p x ≡ true)
first_passes p xs m e =
    let found = passes_from p xs 0 m e in
    let same : found.place ≡ m = omega (arith, found.far) in
    (found.item, subst (λ (n : ℕ). slice_get xs n ≡ Some found.item) same found.stands, found.passes)

pub second_of_three : (a b c : Bool) → (a && b && c) ≡ true → b ≡ true
second_of_three true true c e = refl
second_of_three true false c e = absurd cc
second_of_three false b c e = absurd cc

pub third_of_four : (a b c d : Bool) → (a && b && c && d) ≡ true → c ≡ true
third_of_four true true true d e = refl
third_of_four true true false d e = absurd cc
third_of_four true false c d e = absurd cc
third_of_four false b c d e = absurd cc
