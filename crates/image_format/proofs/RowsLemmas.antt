-- What is told of a maker's objects, by its row and by their numbers.
use Rattle.std.proofs.Common.{◌≡◌, ◌∙◌, ◌⊎◌, inl, inr, ℕ, zero, suc, ◌+◌, ◌<◌, ◌≤◌, ◌^◌, ◌==◌, true, false, List, []}
use Rattle.std.proofs.Common.{◌∷◌}
use Rattle.std.proofs.Common.{◌++◌, length, map, get_or, Option, Some, None, slice_get, option_map, refl, sym, ap}
use Rattle.std.proofs.Common.{subst}
use Rattle.std.proofs.Common.{arith, eqb-true, eq-eqb, if◌then◌else◌}
use Rattle.std.specs.List.{All, flat_map, range_with_len}
use Rattle.std.proofs.lemmas.Bool.{cases_lt}
use Rattle.std.proofs.lemmas.List.Elements.{All-nil, All-cons}
use Rattle.vm_state.specs.declared.object.Object.{Object}
use Rattle.vm_state.specs.SharedState.{Pool}
use Rattle.vm_state.specs.Objects.{AscendsFrom, object_in}
use Rattle.vm_state.specs.Pools.{IsListOf}
use Rattle.vm_state.proofs.ListLemmas.{tested}
use Rattle.vm_state.proofs.ObjectLemmas.{none_below}
use Rattle.image_format.specs.Regions.{ImageObject, KeptObject}
use Rattle.image_format.specs.declared.version.Version.TheVariants as versions
use Rattle.image_format.specs.Objects.{object_with}
use Rattle.image_format.specs.Shapes.{AreNumbered}
use Rattle.image_format.specs.Told.{told_object, told_kept, told_if, told_objects}
use Rattle.image_format.proofs.DroppedLemmas.{numbers_lower}

abbrev Row : Type 0
Row = List (ℕ × Object)

abbrev pub told_from : List (List ℕ) → (ℕ → Option Object) → ℕ → ℕ → List KeptObject
told_from S at low k = flat_map (λ n. told_if S n (at n)) (range_with_len low k)

-- ---- a row

apart : (k n : ℕ) → n < k → (k == n) ≡ false
apart k n lt = grind arith

ends : (low : ℕ) (row : Row) (count : ℕ) → AscendsFrom low row count → low ≤ count
ends low [] count h = h
ends low (o ∷ os) count h = let later = ends (o.0 + 1) os count h.1 in let here = h.0 in omega (arith, later, here)

-- the number of an object of a row is found in it
at_head : (o : ℕ × Object) (os : Row) (count : ℕ) → AscendsFrom (o.0 + 1) os count
    → object_in (o ∷ os) o.0 ≡ Some o.1
at_head o os count h =
    let none : object_in os o.0 ≡ None = none_below (o.0 + 1) os count o.0 h (omega arith) in
    let same : (o.0 == o.0) ≡ true = eq-eqb o.0 o.0 refl in
    rw (none, same) refl

past_head : (o : ℕ × Object) (os : Row) (n : ℕ) → o.0 < n → object_in (o ∷ os) n ≡ object_in os n
past_head o os n lt = by (object_in os n) refl
  where
    other : (n == o.0) ≡ false
    other = apart n o.0 lt

    by : (r : Option Object) → object_in os n ≡ r → object_in (o ∷ os) n ≡ r
    by None e = rw (e, other) refl
    by (Some x) e = rw e refl

told_by : (S : List (List ℕ)) (row : Row) (at : ℕ → Option Object) (k low count : ℕ) → low + k ≡ count
    → AscendsFrom low row count → ((n : ℕ) → low ≤ n → at n ≡ object_in row n)
    → told_from S at low k ≡ map (told_kept S) row
told_by S [] at zero low count is h same = refl
told_by S (o ∷ os) at zero low count is h same =
    let later = ends (o.0 + 1) os count h.1 in let here = h.0 in absurd (omega (arith, later, here, is))
told_by S [] at (suc k) low count is h same =
    let none : at low ≡ None = same low (omega arith) in
    rw none (told_by S [] at k (low + 1) count (omega (arith, is)) (omega (arith, is))
    (λ n le. same n (omega (arith, le))))
told_by S (o ∷ os) at (suc k) low count is h same = elim (cases_lt low o.0) [
  | inl less ↦
      let none : at low ≡ None =
      same low (omega arith) ∙ none_below o.0 (o ∷ os) count low (omega arith, h.1) less in
      rw none (told_by S (o ∷ os) at k (low + 1) count (omega (arith, is)) (omega (arith, less), h.1)
      (λ n le. same n (omega (arith, le))))
  | inr high ↦
      let here = h.0 in
      let at_low : o.0 ≡ low = omega (arith, here, high) in
      let Q : ℕ → Type 0 = λ z. at z ≡ object_in (o ∷ os) z in
      let some : at low ≡ Some o.1 =
      subst (λ z. at z ≡ Some o.1) at_low (subst Q (sym at_low) (same low (omega arith))
      ∙ at_head o os count h.1) in
      let rest : told_from S at (low + 1) k ≡ map (told_kept S) os =
      told_by S os at k (low + 1) count (omega (arith, is))
      (subst (λ z. AscendsFrom (z + 1) os count) at_low h.1)
      (λ n le. same n (omega (arith, le)) ∙ past_head o os n (omega (arith, le, at_low))) in
      let first : told_kept S (low, o.1) ≡ told_kept S o =
      ap (λ (z : ℕ). told_kept S (z, o.1)) (sym at_low) in
      rw some (ap (λ (ks : List KeptObject). told_kept S (low, o.1) ∷ ks) rest
      ∙ ap (λ (x : KeptObject). x ∷ map (told_kept S) os) first)
]

pub told_row : (S : List (List ℕ)) (row : Row) (pool : Pool) → IsListOf row pool
    → told_objects S pool ≡ map (told_kept S) row
told_row S row pool is =
    told_by S row pool.at pool.count 0 pool.count (omega arith) is.ascending
    (λ n le. ap (λ (f : ℕ → Option Object). f n) (sym is.all))

-- what holds of each object that is held holds of each of the row
pub all_row : (Q : ℕ → Object → Type 0) (low : ℕ) (row : Row) (count : ℕ) → AscendsFrom low row count
    → ((n : ℕ) (o : Object) → low ≤ n → object_in row n ≡ Some o → Q n o)
    → All (λ (o : ℕ × Object). Q o.0 o.1) row
all_row Q low [] count h each = All-nil (λ (o : ℕ × Object). Q o.0 o.1)
all_row Q low (o ∷ os) count h each =
    let here = h.0 in
    All-cons (λ (x : ℕ × Object). Q x.0 x.1) o os (each o.0 o.1 here (at_head o os count h.1))
    (all_row Q (o.0 + 1) os count h.1 (λ n x le at.
    each n x (omega (arith, le, here)) (past_head o os n (omega (arith, le)) ∙ at)))

pub numbers_low : (low : ℕ) (row : Row) (count : ℕ) → AscendsFrom low row count → count < 2 ^ 32
    → All (λ (o : ℕ × Object). o.0 < 2 ^ 32) row
numbers_low low [] count h few = All-nil (λ (o : ℕ × Object). o.0 < 2 ^ 32)
numbers_low low (o ∷ os) count h few =
    let later = ends (o.0 + 1) os count h.1 in
    All-cons (λ (x : ℕ × Object). x.0 < 2 ^ 32) o os (omega (arith, later, few))
    (numbers_low (o.0 + 1) os count h.1 few)

pub row_few : (low : ℕ) (row : Row) (count : ℕ) → AscendsFrom low row count → low + length row ≤ count
row_few low [] count h = omega (arith, h)
row_few low (o ∷ os) count h =
    let later = row_few (o.0 + 1) os count h.1 in let here = h.0 in omega (arith, later, here)

-- what holds of each of a row holds of each object that is held
pub from_row : (Q : ℕ → Object → Type 0) (row : Row) → All (λ (o : ℕ × Object). Q o.0 o.1) row → (n : ℕ) (o : Object)
    → object_in row n ≡ Some o → Q n o
from_row Q [] all n o at = absurd cc
from_row Q (x ∷ xs) all n o at =
    by (λ y later. from_row Q xs (λ i d lt. all (suc i) d (omega (arith, lt))) n y later) (object_in xs n) refl
  where
    head : (b : (n == x.0) ≡ true ⊎ ((n == x.0) ≡ false)) → object_in xs n ≡ None → Q n o
    head (inl same) none =
        let is : n ≡ x.0 = eqb-true n x.0 same in
        let one : Some x.1 ≡ Some o = rw (none, same) at at in
        let object : x.1 ≡ o = cc in
        let first : Q x.0 x.1 = all 0 x (omega arith) in
        subst (λ (z : ℕ). Q z o) (sym is) (subst (λ (z : Object). Q x.0 z) object first)
    head (inr other) none = absurd (let clash : None ≡ Some o = rw (none, other) at at in cc)

    by : ((y : Object) → object_in xs n ≡ Some y → Q n y) → (r : Option Object) → object_in xs n ≡ r → Q n o
    by more None e = head (tested (n == x.0)) e
    by more (Some y) e =
        let one : Some y ≡ Some o = rw e at at in
        let same : y ≡ o = cc in
        subst (λ (z : Object). Q n z) same (more y e)

-- ---- by numbers

module _ (S : List (List ℕ)) (at : ℕ → Option Object) where
  with_below : (low k n : ℕ) → n < low → object_with (told_from S at low k) n ≡ None
  with_below low zero n lt = refl
  with_below low (suc k) n lt = by (with_below (low + 1) k n (omega (arith, lt))) (at low) refl
    where
      by : object_with (told_from S at (low + 1) k) n ≡ None → (o : Option Object) → at low ≡ o
          → object_with (told_from S at low (suc k)) n ≡ None
      by more None e = rw e more
      by more (Some o) e = let other : (low == n) ≡ false = apart low n lt in rw (e, other) more

  with_in : (low k n : ℕ) → low ≤ n → n < low + k
      → object_with (told_from S at low k) n ≡ option_map (told_object S) (at n)
  with_in low zero n le lt = absurd (omega (arith, le, lt))
  with_in low (suc k) n le lt = elim (cases_lt low n) [
    | inl less ↦ later less (with_in (low + 1) k n (omega (arith, less)) (omega (arith, lt))) (at low) refl
    | inr high ↦
        let same : low ≡ n = omega (arith, le, high) in
        subst (λ z. object_with (told_from S at low (suc k)) z ≡ option_map (told_object S) (at z)) same
        (here (at low) refl)
  ]
    where
      here : (o : Option Object) → at low ≡ o
          → object_with (told_from S at low (suc k)) low ≡ option_map (told_object S) (at low)
      here None e = rw e (with_below (low + 1) k low (omega arith))
      here (Some o) e = let same : (low == low) ≡ true = eq-eqb low low refl in rw (e, same) refl

      later : low < n → object_with (told_from S at (low + 1) k) n ≡ option_map (told_object S) (at n)
          → (o : Option Object) → at low ≡ o
          → object_with (told_from S at low (suc k)) n ≡ option_map (told_object S) (at n)
      later less more None e = rw e more
      later less more (Some o) e = let other : (low == n) ≡ false = grind arith in rw (e, other) more

  with_past : (low k n : ℕ) → low + k ≤ n → object_with (told_from S at low k) n ≡ None
  with_past low zero n le = refl
  with_past low (suc k) n le = by (with_past (low + 1) k n (omega (arith, le))) (at low) refl
    where
      by : object_with (told_from S at (low + 1) k) n ≡ None → (o : Option Object) → at low ≡ o
          → object_with (told_from S at low (suc k)) n ≡ None
      by more None e = rw e more
      by more (Some o) e =
          let less : low < n = omega (arith, le) in
          let other : (low == n) ≡ false = grind arith in
          rw (e, other) more

  pub numbered_told : (low k count : ℕ) → low + k ≡ count → AreNumbered versions.Two count low (told_from S at low k)
  numbered_told low zero count is = tt
  numbered_told low (suc k) count is = by (numbered_told (low + 1) k count (omega (arith, is))) (at low) refl
    where
      by : AreNumbered versions.Two count (low + 1) (told_from S at (low + 1) k) → (o : Option Object) → at low ≡ o
          → AreNumbered versions.Two count low (told_from S at low (suc k))
      by rest None e =
          rw e (numbers_lower count (low + 1) low (told_from S at (low + 1) k) (omega arith) rest)
      by rest (Some o) e = rw e ((omega arith, omega (arith, is)), rest)

  pub all_told : (Q : KeptObject → Type 0) (low k : ℕ)
      → ((n : ℕ) (o : Object) → at n ≡ Some o → Q (told_kept S (n, o))) → All Q (told_from S at low k)
  all_told Q low zero each = All-nil Q
  all_told Q low (suc k) each = by (all_told Q (low + 1) k each) (at low) refl
    where
      by : All Q (told_from S at (low + 1) k) → (o : Option Object) → at low ≡ o
          → All Q (told_from S at low (suc k))
      by rest None e = rw e rest
      by rest (Some o) e = rw e (All-cons Q (told_kept S (low, o)) (told_from S at (low + 1) k) (each low o e) rest)

-- the object of a number is what is told of that one
pub told_at : (S : List (List ℕ)) (pool : Pool) (n : ℕ) → ((m : ℕ) → pool.count ≤ m → pool.at m ≡ None)
    → object_with (told_objects S pool) n ≡ option_map (told_object S) (pool.at n)
told_at S pool n none = elim (cases_lt n pool.count) [
  | inl less ↦ with_in S pool.at 0 pool.count n (omega arith) (omega (arith, less))
  | inr high ↦ with_past S pool.at 0 pool.count n (omega (arith, high))
      ∙ ap (option_map (told_object S)) (sym (none n high))
]

-- ---- objects that are told

-- what holds of all objects that are told holds of that of a number
pub kept_is : (Q : ImageObject → Type 0) (told : List KeptObject) (n : ℕ) (t : ImageObject)
    → All (λ (kept : KeptObject). Q kept.object) told → object_with told n ≡ Some t → Q t
kept_is Q [] n t all at = absurd cc
kept_is Q (k ∷ ks) n t all at = elim (tested (k.number == n)) [
  | inl same ↦
      let one : Some k.object ≡ Some t = rw same at at in
      let is : k.object ≡ t = cc in
      subst Q is (all 0 k (omega arith))
  | inr other ↦
      let later : object_with ks n ≡ Some t = rw other at at in
      kept_is Q ks n t (λ i d lt. all (suc i) d (omega (arith, lt))) later
]

-- no number is past the count
pub none_past : (count least : ℕ) (told : List KeptObject) (n : ℕ) → AreNumbered versions.Two count least told
    → count ≤ n → object_with told n ≡ None
none_past count least [] n numbers le = refl
none_past count least (k ∷ ks) n numbers le =
    let lt = numbers.0.1 in
    let other : (k.number == n) ≡ false = below k.number n (omega (arith, lt, le)) in
    let later : object_with ks n ≡ None = none_past count (k.number + 1) ks n numbers.1 le in
    rw (other, later) refl
  where
    below : (a b : ℕ) → a < b → (a == b) ≡ false
    below a b less = grind arith
