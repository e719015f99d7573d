-- Rows without the objects whose places are not found.
use Rattle.std.proofs.Common.{◌≡◌, ◌∙◌, ◌↔◌, inl, inr, ℕ, zero, suc, ◌+◌, ◌≤◌, ◌==◌, Bool, true, false, List, [], ◌∷◌}
use Rattle.std.proofs.Common.{◌++◌, ◌||◌, length, Option, Some, None, slice_get, refl, sym, ap, subst, eqb-true, eq-eqb}
use Rattle.std.proofs.Common.{if◌then◌else◌, append_assoc, arith}
use Rattle.std.specs.List.{Contains}
use Rattle.std.proofs.lemmas.Bool.{or_cases}
use Rattle.std.proofs.lemmas.List.{append-nil}
use Rattle.std.proofs.Math.Bool.{or-true}
use Rattle.vm_state.specs.declared.object.Object.{Object}
use Rattle.vm_state.specs.Objects.{AscendsFrom, or_later, object_in}
use Rattle.vm_state.proofs.ListLemmas.{tested}
use Rattle.place_set.specs.declared.set.Place.{Place}
use Rattle.object_graph.specs.steps.Kept.{only_if, is_same, is_among, kept_from}
use Rattle.object_graph.proofs.RowLemmas.{or_later_none}

abbrev pub place : ℕ → ℕ → Place
place c i = record { row = c; index = i }

-- ---- whether a place is among others

same_place : (x y : Place) → is_same x y ≡ true → x ≡ y
same_place x y e = elim (tested (x.row == y.row)) [
  | inl row ↦ elim (tested (x.index == y.index)) [
    | inl index ↦
        let p : x.row ≡ y.row = eqb-true x.row y.row row in
        let q : x.index ≡ y.index = eqb-true x.index y.index index in
        λ i. record { row = p i; index = q i }
    | inr index ↦ let clash : false ≡ true = rw (row, index) at e in cc
  ]
  | inr row ↦ let clash : false ≡ true = rw row at e in cc
]

same_itself : (x : Place) → is_same x x ≡ true
same_itself x =
    let row : (x.row == x.row) ≡ true = eq-eqb x.row x.row refl in
    let index : (x.index == x.index) ≡ true = eq-eqb x.index x.index refl in
    rw (row, index) refl

or_left : (a b : Bool) → a ≡ true → (a || b) ≡ true
or_left a b e = rw e refl

or_right : (a b : Bool) → b ≡ true → (a || b) ≡ true
or_right a b e = rw e (or-true a)

found_there : (found : List Place) (x : Place) → is_among found x ≡ true → Contains found x
found_there [] x e = let clash : false ≡ true = e in cc
found_there (y ∷ ys) x e = elim (or_cases (is_same x y) (is_among ys x) e) [
  | inl here ↦ (0, omega arith, sym (same_place x y here))
  | inr later ↦ let r = found_there ys x later in (suc r.0, omega (arith, r.1), r.2)
]

found_back : (found : List Place) (x : Place) → Contains found x → is_among found x ≡ true
found_back [] x h = absurd (omega (arith, h.1))
found_back (y ∷ ys) x (zero, low, is) =
    let Q : Place → Type 0 = λ z. is_same x z ≡ true in
    or_left (is_same x y) (is_among ys x) (subst Q (sym is) (same_itself x))
found_back (y ∷ ys) x (suc k, low, is) =
    or_right (is_same x y) (is_among ys x) (found_back ys x (k, omega (arith, low), is))

pub among : (found : List Place) (x : Place) → (is_among found x ≡ true) ↔ Contains found x
among found x = (found_there found x, found_back found x)

same_choice : (a b : Bool) (P : Type 0) → (a ≡ true) ↔ P → (b ≡ true) ↔ P → a ≡ b
same_choice true true P p q = refl
same_choice true false P p q = sym (q.1 (p.0 refl))
same_choice false true P p q = p.1 (q.0 refl)
same_choice false false P p q = refl

-- ---- one more object

kept_push : (found : List Place) (c i : ℕ) (xs : List (ℕ × Object)) (o : ℕ × Object)
    → kept_from found c i (xs ++ o ∷ [])
    ≡ kept_from found c i xs ++ only_if (is_among found (place c (i + length xs))) o
kept_push found c i [] o =
    let k : i ≡ i + 0 = omega arith in
    append-nil (only_if (is_among found (place c i)) o)
    ∙ ap (λ (n : ℕ). only_if (is_among found (place c n)) o) k
kept_push found c i (x ∷ xs) o =
    let k : i + 1 + length xs ≡ i + length (x ∷ xs) = omega arith in
    ap (λ (zs : List (ℕ × Object)). only_if (is_among found (place c i)) x ++ zs)
    (kept_push found c (i + 1) xs o
    ∙ ap (λ (n : ℕ). kept_from found c (i + 1) xs ++ only_if (is_among found (place c n)) o) k)
    ∙ sym (append_assoc (only_if (is_among found (place c i)) x) (kept_from found c (i + 1) xs)
    (only_if (is_among found (place c (i + length (x ∷ xs)))) o))

pub one_kept : (found : List Place) (c index : ℕ) (yielded kept new : List (ℕ × Object)) (held : ℕ × Object)
    (wanted : Bool) → index ≡ length yielded → (wanted ≡ true) ↔ Contains found (place c index)
    → kept ≡ kept_from found c 0 yielded → new ≡ kept ++ only_if wanted held
    → new ≡ kept_from found c 0 (yielded ++ held ∷ [])
one_kept found c index yielded kept new held wanted count has so_far is =
    let same : wanted ≡ is_among found (place c index) =
    same_choice wanted (is_among found (place c index)) (Contains found (place c index)) has
    (among found (place c index)) in
    let k : index ≡ 0 + length yielded = omega (arith, count) in
    is ∙ ap (λ (ks : List (ℕ × Object)). ks ++ only_if wanted held) so_far
    ∙ ap (λ (b : Bool). kept_from found c 0 yielded ++ only_if b held) same
    ∙ ap (λ (n : ℕ). kept_from found c 0 yielded ++ only_if (is_among found (place c n)) held) k
    ∙ sym (kept_push found c 0 yielded held)

-- ---- its numbers rise

lower : (low high : ℕ) (os : List (ℕ × Object)) (count : ℕ) → low ≤ high → AscendsFrom high os count
    → AscendsFrom low os count
lower low high [] count le h = omega (arith, le, h)
lower low high (o ∷ os) count le (h, hs) = (omega (arith, le, h), hs)

if_rises : (b : Bool) (low : ℕ) (o : ℕ × Object) (ks : List (ℕ × Object)) (count : ℕ) → low ≤ o.0
    → AscendsFrom (o.0 + 1) ks count → AscendsFrom low (only_if b o ++ ks) count
if_rises true low o ks count h hs = (h, hs)
if_rises false low o ks count h hs = lower low (o.0 + 1) ks count (omega (arith, h)) hs

pub kept_rises : (found : List Place) (c i low : ℕ) (os : List (ℕ × Object)) (count : ℕ) → AscendsFrom low os count
    → AscendsFrom low (kept_from found c i os) count
kept_rises found c i low [] count h = h
kept_rises found c i low (o ∷ os) count (h, hs) =
    if_rises (is_among found (place c i)) low o (kept_from found c (i + 1) os) count h
    (kept_rises found c (i + 1) (o.0 + 1) os count hs)

-- ---- what is kept

-- an object whose place is found, counted from an index
pub record IsFoundFrom (found : List Place) (c i : ℕ) (os : List (ℕ × Object)) (held : ℕ × Object) : Type 0 where
  pub index : ℕ
  pub at : slice_get os index ≡ Some held
  pub wanted : is_among found (place c (i + index)) ≡ true

later_found : (found : List Place) (c i : ℕ) (o : ℕ × Object) (os : List (ℕ × Object)) (held : ℕ × Object)
    → IsFoundFrom found c (i + 1) os held → IsFoundFrom found c i (o ∷ os) held
later_found found c i o os held r =
    let k : i + 1 + r.index ≡ i + suc r.index = omega arith in
    let Q : ℕ → Type 0 = λ n. is_among found (place c n) ≡ true in
    record { index = suc r.index; at = r.at; wanted = subst Q k r.wanted }

here_found : (found : List Place) (c i : ℕ) (o : ℕ × Object) (os : List (ℕ × Object)) (held : ℕ × Object) → o ≡ held
    → is_among found (place c i) ≡ true → IsFoundFrom found c i (o ∷ os) held
here_found found c i o os held same on =
    let k : i ≡ i + 0 = omega arith in
    let Q : ℕ → Type 0 = λ n. is_among found (place c n) ≡ true in
    record { index = 0; at = ap (λ (z : ℕ × Object). Some z) same; wanted = subst Q k on }

pub from_kept : (found : List Place) (c i : ℕ) (os : List (ℕ × Object)) (k : ℕ) (held : ℕ × Object)
    → slice_get (kept_from found c i os) k ≡ Some held → IsFoundFrom found c i os held
from_kept found c i [] k held at = cc
from_kept found c i (o ∷ os) k held at =
    by (is_among found (place c i)) refl k at (λ l there. from_kept found c (i + 1) os l held there)
  where
    by : (b : Bool) → is_among found (place c i) ≡ b → (k : ℕ)
        → slice_get (only_if b o ++ kept_from found c (i + 1) os) k ≡ Some held
        → ((l : ℕ) → slice_get (kept_from found c (i + 1) os) l ≡ Some held → IsFoundFrom found c (i + 1) os held)
        → IsFoundFrom found c i (o ∷ os) held
    by false off k at more = later_found found c i o os held (more k at)
    by true on zero at more = let same : o ≡ held = cc in here_found found c i o os held same on
    by true on (suc k) at more = later_found found c i o os held (more k at)

if_kept : (b : Bool) (o : ℕ × Object) (ks os : List (ℕ × Object)) (n : ℕ) → ((n == o.0) ≡ true → b ≡ true)
    → object_in ks n ≡ object_in os n → object_in (only_if b o ++ ks) n ≡ object_in (o ∷ os) n
if_kept true o ks os n wanted rest =
    ap (λ (z : Option Object). or_later (if n == o.0 then Some o.1 else None) z) rest
if_kept false o ks os n wanted rest = elim (tested (n == o.0)) [
  | inl same ↦ let clash : false ≡ true = wanted same in cc
  | inr other ↦ rw other (rest ∙ sym (or_later_none (object_in os n)))
]

-- an object of a number stays, where its place is found
pub object_kept : (found : List Place) (c i : ℕ) (os : List (ℕ × Object)) (n : ℕ)
    → ((j : ℕ) (held : ℕ × Object) → slice_get os j ≡ Some held → held.0 ≡ n
    → is_among found (place c (i + j)) ≡ true)
    → object_in (kept_from found c i os) n ≡ object_in os n
object_kept found c i [] n all = refl
object_kept found c i (o ∷ os) n all =
    if_kept (is_among found (place c i)) o (kept_from found c (i + 1) os) os n
    (λ same.
    let k : i + 0 ≡ i = omega arith in
    let Q : ℕ → Type 0 = λ m. is_among found (place c m) ≡ true in
    subst Q k (all 0 o refl (sym (eqb-true n o.0 same))))
    (object_kept found c (i + 1) os n (λ j held at is.
    let k : i + suc j ≡ i + 1 + j = omega arith in
    let Q : ℕ → Type 0 = λ m. is_among found (place c m) ≡ true in
    subst Q k (all (suc j) held at is)))
