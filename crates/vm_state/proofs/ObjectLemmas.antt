-- The object of a number is found by its place.
use Rattle.std.proofs.Common.{◌≡◌, ℕ, zero, suc, ◌<◌, ◌≤◌, ◌+◌, false, List, [], ◌∷◌, ◌++◌, Option, Some, None}
use Rattle.std.proofs.Common.{length, get_or, refl, sym, ◌==◌, eqb-true, inl, inr, arith}
use Rattle.std.specs.List.Sorted.{IsNonDecreasingBy}
use Rattle.vm_state.specs.declared.object.Object.{Object}
use Rattle.vm_state.specs.Objects.{AscendsFrom, object_in}
use Rattle.vm_state.specs.steps.Objects.{object_at_place}
use Rattle.vm_state.proofs.ListLemmas.{tested}

pub ascends-more : (low : ℕ) (os : List (ℕ × Object)) (count : ℕ) (o : Object) → AscendsFrom low os count →
    AscendsFrom low (os ++ (count, o) ∷ []) (count + 1)
ascends-more low [] count o h = (h, omega arith)
ascends-more low (x ∷ xs) count o (h, hs) = (h, ascends-more (x.0 + 1) xs count o hs)

not_below : (low : ℕ) (os : List (ℕ × Object)) (count j : ℕ) (d : ℕ × Object) → AscendsFrom low os count →
    j < length os → low ≤ (get_or os j d).0
not_below low [] count j d h inside = absurd (omega (arith, inside))
not_below low (x ∷ xs) count zero d (h, hs) inside = h
not_below low (x ∷ xs) count (suc j) d (h, hs) inside =
    let later : x.0 + 1 ≤ (get_or xs j d).0 = not_below (x.0 + 1) xs count j d hs (omega (arith, inside)) in
    omega (arith, h, later)

pub rises : (low : ℕ) (os : List (ℕ × Object)) (count : ℕ) → AscendsFrom low os count →
    IsNonDecreasingBy (λ (o : ℕ × Object). o.0) os
rises low [] count h i j d le inside = absurd (omega (arith, inside))
rises low (x ∷ xs) count (h, hs) zero zero d le inside = omega arith
rises low (x ∷ xs) count (h, hs) zero (suc j) d le inside =
    let later : x.0 + 1 ≤ (get_or xs j d).0 = not_below (x.0 + 1) xs count j d hs (omega (arith, inside)) in
    omega (arith, later)
rises low (x ∷ xs) count (h, hs) (suc i) zero d le inside = absurd (omega (arith, le))
rises low (x ∷ xs) count (h, hs) (suc i) (suc j) d le inside =
    rises (x.0 + 1) xs count hs i j d (omega (arith, le)) (omega (arith, inside))

unequal_below : (k n : ℕ) → k < n → (k == n) ≡ false
unequal_below k n h = grind arith

unequal_above : (k n : ℕ) → n < k → (k == n) ≡ false
unequal_above k n h = grind arith

pub none_below : (low : ℕ) (os : List (ℕ × Object)) (count k : ℕ) → AscendsFrom low os count → k < low →
    object_in os k ≡ None
none_below low [] count k h below = refl
none_below low (x ∷ xs) count k (h, hs) below =
    let other : (k == x.0) ≡ false = unequal_below k x.0 (omega (arith, h, below)) in
    let later : object_in xs k ≡ None = none_below (x.0 + 1) xs count k hs (omega (arith, h, below)) in
    rw (other, later) refl

pub found_at : (low : ℕ) (os : List (ℕ × Object)) (count place k : ℕ) (o : Object) → AscendsFrom low os count →
    object_at_place os place k ≡ Some o → object_in os k ≡ Some o
found_at low [] count place k o h at = cc
found_at low (x ∷ xs) count zero k o (h, hs) at = elim (tested (k == x.0)) [
  | inl e ↦
      let same : k ≡ x.0 = eqb-true k x.0 e in
      let later : object_in xs k ≡ None = none_below (x.0 + 1) xs count k hs (omega (arith, same)) in rw later at
  | inr e ↦ let none : None ≡ Some o = rw e at at in cc
]
found_at low (x ∷ xs) count (suc place) k o (h, hs) at =
    let later : object_in xs k ≡ Some o = found_at (x.0 + 1) xs count place k o hs at in rw later refl

none_at : (low : ℕ) (os : List (ℕ × Object)) (count place k : ℕ) → AscendsFrom low os count →
    ((i : ℕ) (d : ℕ × Object) → i < place → i < length os → (get_or os i d).0 < k) →
    ((d : ℕ × Object) → place < length os → k ≤ (get_or os place d).0) → object_at_place os place k ≡ None →
    object_in os k ≡ None
none_at low [] count place k h before after at = refl
none_at low (x ∷ xs) count zero k (h, hs) before after at = elim (tested (k == x.0)) [
  | inl e ↦ let none : Some x.1 ≡ None = rw e at at in cc
  | inr e ↦
      let below : k ≤ x.0 = after x (omega arith) in
      let apart : k < x.0 = grind arith in
      none_below x.0 (x ∷ xs) count k (omega arith, hs) apart
]
none_at low (x ∷ xs) count (suc place) k (h, hs) before after at =
    let other : (k == x.0) ≡ false = unequal_above k x.0 (before zero x (omega arith) (omega arith)) in
    let later : object_in xs k ≡ None =
    none_at (x.0 + 1) xs count place k hs
    (λ i d i-before inside. before (suc i) d (omega (arith, i-before)) (omega (arith, inside)))
    (λ d inside. after d (omega (arith, inside))) at in
    rw (other, later) refl

pub searched_within : (os : List (ℕ × Object)) (count place k : ℕ) → AscendsFrom 0 os count →
    ((i : ℕ) (d : ℕ × Object) → i < place → i < length os → (get_or os i d).0 < k) →
    ((d : ℕ × Object) → place < length os → k ≤ (get_or os place d).0) → object_at_place os place k ≡ object_in os k
searched_within os count place k h before after = by (object_at_place os place k) refl where
  by : (o : Option Object) → object_at_place os place k ≡ o → object_at_place os place k ≡ object_in os k
  by None at = rw at (sym (none_at 0 os count place k h before after at))
  by (Some o) at = rw at (sym (found_at 0 os count place k o h at))
