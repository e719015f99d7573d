-- Objects of a row by their indices in it.
use Rattle.std.proofs.Common.{◌≡◌, ◌∙◌, ℕ, zero, suc, ◌+◌, ◌<◌, ◌≤◌, ◌==◌, true, false, List, [], ◌∷◌, Option, Some}
use Rattle.std.proofs.Common.{None, is_some, slice_get, option_map, refl, sym, ap, subst, eqb-true, eq-eqb}
use Rattle.std.proofs.Common.{inl, inr, arith}
use Rattle.std.proofs.lemmas.Bool.{cases_lt}
use Rattle.vm_state.specs.declared.object.Object.{Object}
use Rattle.vm_state.specs.Objects.{HeldObjects, AscendsFrom, or_later, object_in}
use Rattle.vm_state.specs.steps.Objects.{if_numbered, object_at_place}
use Rattle.vm_state.proofs.ListLemmas.{tested}
use Rattle.vm_state.proofs.ObjectLemmas.{found_at}
use Rattle.region_shape.specs.declared.regions.Region.{Region as Held}
use Rattle.region_shape.specs.Regions.{region_of, region_in, environment_of}
use Rattle.object_graph.specs.declared.name_set.ObjectName.{ObjectName}
use Rattle.object_graph.specs.Reached.{object_among, object_of}
use Rattle.object_graph.specs.steps.Places.{held_pool, pool_in, Ascends}

pub or_later_none : (o : Option Object) → or_later None o ≡ o
or_later_none None = refl
or_later_none (Some x) = refl

-- an object that stands at an index with its number
pub record Stands (os : List (ℕ × Object)) (n : ℕ) : Type 0 where
  pub index : ℕ
  pub held : ℕ × Object
  pub at : slice_get os index ≡ Some held
  pub number : held.0 ≡ n

-- the object of a number stands at an index
pub stands : (os : List (ℕ × Object)) (n : ℕ) (o : Object) → object_in os n ≡ Some o
    → (s : Stands os n) × (s.held.1 ≡ o)
stands [] n o e = cc
stands (x ∷ xs) n o e = by (object_in xs n) refl (λ l some. stands xs n l some)
  where
    by : (later : Option Object) → object_in xs n ≡ later
        → ((l : Object) → object_in xs n ≡ Some l → (s : Stands xs n) × (s.held.1 ≡ l))
        → (s : Stands (x ∷ xs) n) × (s.held.1 ≡ o)
    by None none more = elim (tested (n == x.0)) [
      | inl same ↦
          let some : Some x.1 ≡ Some o = rw (none, same) at e in
          (record { index = 0; held = x; at = refl; number = sym (eqb-true n x.0 same) }, (let is : x.1 ≡ o = cc in is))
      | inr other ↦ let clash : None ≡ Some o = rw (none, other) at e in cc
    ]
    by (Some l) some more =
        let last : Some l ≡ Some o = rw some at e in
        let is : l ≡ o = cc in
        let r = more l some in
        (record { index = suc r.0.index; held = r.0.held; at = r.0.at; number = r.0.number }, r.1 ∙ is)

-- what stands at an index
pub standing : (os : List (ℕ × Object)) (index n : ℕ) → is_some (object_at_place os index n) ≡ true
    → (s : Stands os n) × (s.index ≡ index)
standing os index n e = by (slice_get os index) refl
  where
    by : (o : Option (ℕ × Object)) → slice_get os index ≡ o → (s : Stands os n) × (s.index ≡ index)
    by None at = let clash : false ≡ true = rw at at e in cc
    by (Some held) at = elim (tested (n == held.0)) [
      | inl same ↦ (record { index = index; held = held; at = at; number = sym (eqb-true n held.0 same) }, refl)
      | inr other ↦ let clash : false ≡ true = rw (at, other) at e in cc
    ]

-- an object of that number is held
pub some_held : (os : List (ℕ × Object)) (i : ℕ) (held : ℕ × Object) → slice_get os i ≡ Some held
    → is_some (object_in os held.0) ≡ true
some_held [] i held at = cc
some_held (x ∷ xs) zero held at =
    let is : x ≡ held = cc in
    let Q : ℕ × Object → Type 0 = λ z. is_some (object_in (x ∷ xs) z.0) ≡ true in
    subst Q is (by (object_in xs x.0) refl)
  where
    by : (later : Option Object) → object_in xs x.0 ≡ later → is_some (object_in (x ∷ xs) x.0) ≡ true
    by None none = rw (none, eq-eqb x.0 x.0 refl) refl
    by (Some l) some = rw some refl
some_held (x ∷ xs) (suc i) held at = by (object_in xs held.0) refl (some_held xs i held at)
  where
    by : (later : Option Object) → object_in xs held.0 ≡ later → is_some (object_in xs held.0) ≡ true
        → is_some (object_in (x ∷ xs) held.0) ≡ true
    by None none some = let clash : false ≡ true = rw none at some in cc
    by (Some l) is some = rw is refl

-- ---- where numbers rise

pub found_in : (row : HeldObjects) (i : ℕ) (held : ℕ × Object) → Ascends row → slice_get row.objects i ≡ Some held
    → object_in row.objects held.0 ≡ Some held.1
found_in row i held rise at =
    let same : (held.0 == held.0) ≡ true = eq-eqb held.0 held.0 refl in
    found_at 0 row.objects row.count i held.0 held.1 rise
    (ap (λ (o : Option (ℕ × Object)). if_numbered o held.0) at ∙ rw same refl)

pub above : (low : ℕ) (os : List (ℕ × Object)) (count k : ℕ) (held : ℕ × Object) → AscendsFrom low os count
    → slice_get os k ≡ Some held → low ≤ held.0
above low [] count k held h at = cc
above low (x ∷ xs) count zero held (h, hs) at =
    let is : x ≡ held = cc in
    let Q : ℕ × Object → Type 0 = λ z. low ≤ z.0 in
    subst Q is h
above low (x ∷ xs) count (suc k) held (h, hs) at =
    let later = above (x.0 + 1) xs count k held hs at in omega (arith, h, later)

never_twice : (low : ℕ) (os : List (ℕ × Object)) (count i j : ℕ) (a b : ℕ × Object) → AscendsFrom low os count → i < j
    → slice_get os i ≡ Some a → slice_get os j ≡ Some b → a.0 ≡ b.0 → ⊥
never_twice low [] count i j a b h lt p q e = cc
never_twice low (x ∷ xs) count zero zero a b (h, hs) lt p q e = omega (arith, lt)
never_twice low (x ∷ xs) count (suc i) zero a b (h, hs) lt p q e = omega (arith, lt)
never_twice low (x ∷ xs) count zero (suc j) a b (h, hs) lt p q e =
    let is : x ≡ a = cc in
    let number : x.0 ≡ a.0 = ap (λ (z : ℕ × Object). z.0) is in
    let later = above (x.0 + 1) xs count j b hs q in
    omega (arith, later, number, e)
never_twice low (x ∷ xs) count (suc i) (suc j) a b (h, hs) lt p q e =
    never_twice (x.0 + 1) xs count i j a b hs (omega (arith, lt)) p q e

-- two indices of one number are one
pub one_index : (row : HeldObjects) (i j : ℕ) (a b : ℕ × Object) → Ascends row → slice_get row.objects i ≡ Some a
    → slice_get row.objects j ≡ Some b → a.0 ≡ b.0 → i ≡ j
one_index row i j a b rise p q same = elim (cases_lt i j) [
  | inl less ↦ absurd (never_twice 0 row.objects row.count i j a b rise less p q same)
  | inr high ↦ elim (cases_lt j i) [
    | inl less ↦ absurd (never_twice 0 row.objects row.count j i b a rise less q p (sym same))
    | inr low ↦ omega (arith, high, low)
  ]
]

-- ---- regions and rows

-- the object of a name is that of its number in the row of its class
pub object_by_pool : (regions : List (Option Held)) (x : ObjectName)
    → object_of (environment_of regions) x ≡ object_in (pool_in regions x.class).objects x.number
object_by_pool regions x = by (region_in regions x.class)
  where
    by : (o : Option Held) → object_among (option_map region_of o) x.number ≡ object_in (held_pool o).objects x.number
    by None = refl
    by (Some r) = refl
