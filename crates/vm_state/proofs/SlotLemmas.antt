-- An object changed: in the pool of its maker.
use Rattle.std.proofs.Common.{◌≡◌, ℕ, zero, suc, ◌≤◌, ◌+◌, Bool, true, false, List, [], ◌∷◌, Option, Some, None}
use Rattle.std.proofs.Common.{get_or, slice_get, slice_set, refl, sym, subst, ap, ◌∙◌, ◌==◌, eqb-true, if◌then◌else◌}
use Rattle.std.proofs.Common.{inl, inr, arith}
use Rattle.std.specs.Prelude.{IsSome, option_map}
use Rattle.std.proofs.Math.Path.{fun_ext}
use Rattle.std.proofs.lemmas.Option.{get_or_from_slice_get}
use Rattle.vm_state.specs.declared.value.Value.{Value}
use Rattle.vm_state.specs.declared.object.Object.{Object}
use Rattle.vm_state.specs.Objects.{none_held, or_later, object_in, AscendsFrom}
use Rattle.vm_state.specs.steps.Objects.{object_at_place}
use Rattle.vm_state.specs.SharedState.{Pool, object_with_slot, with_object, with_slot}
use Rattle.vm_state.specs.Pools.{pool_by}
use Rattle.vm_state.proofs.ListLemmas.{tested}
use Rattle.vm_state.proofs.ObjectLemmas.{none_below, found_at}
use Rattle.vm_state.proofs.PoolLemmas.{or_later-if}

-- ---- the place of an object

-- an object stands at this place, with this number
abbrev pub StandsAt : List (ℕ × Object) → ℕ → ℕ → Object → Type 0
StandsAt os place k o = slice_get os place ≡ Some (k, o)

stands_by : (held : ℕ × Object) (k : ℕ) (b : Bool) → (k == held.0) ≡ b → IsSome (if b then Some held.1 else None) →
    held ≡ (k, held.1)
stands_by held k true e some = ap (λ (n : ℕ). (n, held.1)) (sym (eqb-true k held.0 e))
stands_by held k false e some = cc

-- what stands at a place where there is an object of a number
pub stands : (os : List (ℕ × Object)) (place k : ℕ) (d : ℕ × Object) → IsSome (object_at_place os place k) →
    StandsAt os place k (get_or os place d).1
stands os place k d some = by (slice_get os place) refl where
  by : (at : Option (ℕ × Object)) → slice_get os place ≡ at → StandsAt os place k (get_or os place d).1
  by None e = let none : false ≡ true = rw e at some in cc
  by (Some held) e =
      let there : get_or os place d ≡ held = get_or_from_slice_get os place held d e in
      let numbered : IsSome (if k == held.0 then Some held.1 else None) = rw e at some in
      e ∙ ap (λ (x : ℕ × Object). Some x) (stands_by held k (k == held.0) refl numbered
      ∙ ap (λ (x : ℕ × Object). (k, x.1)) (sym there))

pub at_place : (os : List (ℕ × Object)) (place k : ℕ) (o : Object) → StandsAt os place k o →
    object_at_place os place k ≡ Some o
at_place os place k o is =
    let same : (k == k) ≡ true = grind arith in
    rw (is, same) refl

-- ---- another object at a place

pub ascends-set : (low : ℕ) (os : List (ℕ × Object)) (count place k : ℕ) (o new : Object) → AscendsFrom low os count →
    StandsAt os place k o → AscendsFrom low (slice_set os place (k, new)) count
ascends-set low [] count place k o new h is = cc
ascends-set low (x ∷ xs) count zero k o new (h, hs) is =
    let same : x.0 ≡ k = cc in
    let both : (low ≤ x.0) × AscendsFrom (x.0 + 1) xs count = (h, hs) in
    subst (λ (n : ℕ). (low ≤ n) × AscendsFrom (n + 1) xs count) same both
ascends-set low (x ∷ xs) count (suc place) k o new (h, hs) is =
    (h, ascends-set (x.0 + 1) xs count place k o new hs is)

object_in-set : (low : ℕ) (os : List (ℕ × Object)) (count place k : ℕ) (o new : Object) → AscendsFrom low os count →
    StandsAt os place k o → (n : ℕ) →
    object_in (slice_set os place (k, new)) n ≡ (if n == k then Some new else object_in os n)
object_in-set low [] count place k o new h is n = cc
object_in-set low (x ∷ xs) count zero k o new (h, hs) is n =
    let same : x ≡ (k, o) = cc in
    let number : x.0 ≡ k = ap (λ (held : ℕ × Object). held.0) same in
    let object : x.1 ≡ o = ap (λ (held : ℕ × Object). held.1) same in
    elim (tested (n == k)) [
      | inl e ↦
          let equal : n ≡ k = eqb-true n k e in
          let none : object_in xs n ≡ None = none_below (x.0 + 1) xs count n hs (omega arith) in
          rw (e, none) refl
      | inr e ↦
          rw (number, e) refl
    ]
object_in-set low (x ∷ xs) count (suc place) k o new (h, hs) is n =
    ap (or_later (if n == x.0 then Some x.1 else None)) (object_in-set (x.0 + 1) xs count place k o new hs is n)
    ∙ or_later-if (n == k) (if n == x.0 then Some x.1 else None) (object_in xs n) new

-- ---- an object changed

abbrev pool : ℕ → (ℕ → Option Object) → Pool
pool count at = record { count = count; at = at }

-- what a pool becomes where the object of a number changes
abbrev pub IsChanged : ℕ → List (ℕ × Object) → List (ℕ × Object) → ℕ → (Object → Object) → Type 0
IsChanged count os new k change = AscendsFrom 0 new count
    × (pool_by (record { count = count; objects = new })
    ≡ with_object (pool_by (record { count = count; objects = os })) k (option_map change (object_in os k)))

changed_pool : (count : ℕ) (os : List (ℕ × Object)) (place k : ℕ) (change : Object → Object) (o : Object) →
    AscendsFrom 0 os count → StandsAt os place k o →
    pool_by (record { count = count; objects = slice_set os place (k, change o) })
    ≡ with_object (pool_by (record { count = count; objects = os })) k (option_map change (object_in os k))
changed_pool count os place k change o h is =
    let found' : object_in os k ≡ Some o = found_at 0 os count place k o h (at_place os place k o is) in
    ap (pool count) (fun_ext (λ n. object_in-set 0 os count place k o (change o) h is n
    ∙ ap (λ (held : Option Object). if n == k then option_map change held else object_in os n) (sym found')))

-- what is held at a place, changed
pub changed_at : (count : ℕ) (os : List (ℕ × Object)) (place k : ℕ) (change : Object → Object) (held : ℕ × Object)
    (new : Object) → AscendsFrom 0 os count → IsSome (object_at_place os place k) → held ≡ get_or os place held →
    new ≡ change held.1 →
    IsChanged count os (slice_set os place (held.0, new)) k change
changed_at count os place k change held new h some was is =
    let standing : StandsAt os place k held.1 =
    stands os place k held some ∙ ap (λ (x : ℕ × Object). Some (k, x.1)) (sym was) in
    let same : held ≡ (k, held.1) = was ∙ get_or_from_slice_get os place (k, held.1) held standing in
    let written : (held.0, new) ≡ (k, change held.1) =
    ap (λ (x : ℕ × Object). (x.0, new)) same ∙ ap (λ (o : Object). (k, o)) is in
    let P : ℕ × Object → Type 0 = λ x. IsChanged count os (slice_set os place x) k change in
    subst P (sym written) (
      ascends-set 0 os count place k held.1 (change held.1) h standing,
      changed_pool count os place k change held.1 h standing,
    )

-- ---- the first two slots changed

abbrev pub first_changed : Value → Value → Object → Object
first_changed a b o = object_with_slot 1 b (object_with_slot 0 a o)

changed_twice : (a b : Value) (held : Option Object) →
    option_map (first_changed a b) held ≡ option_map (object_with_slot 1 b) (option_map (object_with_slot 0 a) held)
changed_twice a b None = refl
changed_twice a b (Some o) = refl

abbrev pool_with_first : Pool → ℕ → Value → Value → Pool
pool_with_first p k a b = with_slot (with_slot p k 0 a) k 1 b

first_at : (p : Pool) (n k : ℕ) (a b : Value) →
    (if n == k then option_map (first_changed a b) (p.at k) else p.at n) ≡ (pool_with_first p k a b).at n
first_at p n k a b = elim (tested (n == k)) [
  | inl e ↦
      let same : (k == k) ≡ true = grind arith in
      rw (e, same) (changed_twice a b (p.at k))
  | inr e ↦ rw e refl
]

pub first_pool : (p : Pool) (k : ℕ) (a b : Value) →
    with_object p k (option_map (first_changed a b) (p.at k)) ≡ pool_with_first p k a b
first_pool p k a b = ap (pool p.count) (fun_ext (λ n. first_at p n k a b))

pub nothing_first : (n : ℕ) (a b : Value) → pool_with_first (pool_by none_held) n a b ≡ pool_by none_held
nothing_first n a b = ap (pool 0) (fun_ext (λ k. elim (tested (k == n)) [
  | inl e ↦
      let same : (n == n) ≡ true = grind arith in
      rw (e, same) refl
  | inr e ↦ rw e refl
]))
