-- What a change of the objects' table is of the makers' objects.
use Rattle.std.proofs.Common.{◌≡◌, ℕ, ◌<◌, ◌+◌, Bool, true, false, List, [], ◌∷◌, ◌++◌, Option, Some, None, length}
use Rattle.std.proofs.Common.{get_or, slice_set, refl, sym, ap, ◌∙◌, ◌==◌, eqb-true, eq-eqb, if◌then◌else◌, inl}
use Rattle.std.proofs.Common.{inr, arith, ◌≤◌}
use Rattle.std.proofs.Math.Path.{fun_ext}
use Rattle.std.proofs.lemmas.List.{get_or_default, get_or_past}
use Rattle.vm_state.specs.declared.value.Value.{Value}
use Rattle.vm_state.specs.declared.object.Object.{Object}
use Rattle.vm_state.specs.declared.object.Monitor.TheVariants.{Free}
use Rattle.built_in.specs.declared.class_id.ClassId.{ClassId}
use Rattle.vm_state.specs.Objects.{HeldObjects, none_held, or_later, object_in}
use Rattle.vm_state.specs.steps.Objects.{with_next}
use Rattle.vm_state.specs.SharedState.{Pool, with_new}
use Rattle.vm_state.specs.Pools.{pool_by, held_at, pool_in, with_pool}
use Rattle.vm_state.proofs.ListLemmas.{tested, get_or-slice_set, get_or-filled}

-- ---- one more object

pub or_later-if : (b : Bool) (first o : Option Object) (new : Object) →
    or_later first (if b then Some new else o) ≡ (if b then Some new else or_later first o)
or_later-if true first o new = refl
or_later-if false first o new = refl

object_in-more : (os : List (ℕ × Object)) (n : ℕ) (o : Object) (k : ℕ) →
    object_in (os ++ (n, o) ∷ []) k ≡ (if k == n then Some o else object_in os k)
object_in-more [] n o k = refl
object_in-more (x ∷ xs) n o k =
    ap (or_later (if k == x.0 then Some x.1 else None)) (object_in-more xs n o k)
    ∙ or_later-if (k == n) (if k == x.0 then Some x.1 else None) (object_in xs k) o

abbrev pool : ℕ → (ℕ → Option Object) → Pool
pool count at = record { count = count; at = at }

pub pool_by-next : (r : HeldObjects) (class : ClassId) (slots : List Value) →
    pool_by (with_next r (record { class = class; slots = slots; monitor = Free })) ≡ with_new (pool_by r) class slots
pool_by-next r class slots =
    let new : Object = record { class = class; slots = slots; monitor = Free } in
    ap (pool (r.count + 1)) (fun_ext (object_in-more r.objects r.count new))

-- ---- the pools

pub pool_in-more : (held : List HeldObjects) → pool_in (held ++ none_held ∷ []) ≡ pool_in held
pool_in-more held = fun_ext (λ m. ap pool_by (get_or-filled held 1 m none_held))

pub equal_turned : (i j : ℕ) → (i == j) ≡ (j == i)
equal_turned i j = elim (tested (j == i)) [
  | inl e ↦ let same : j ≡ i = eqb-true j i e in rw e (eq-eqb i j (sym same))
  | inr e ↦ rw e (grind arith)
]

pool_by-if : (b : Bool) (x y : HeldObjects) → pool_by (if b then x else y) ≡ (if b then pool_by x else pool_by y)
pool_by-if true x y = refl
pool_by-if false x y = refl

pub pool_in-set : (held : List HeldObjects) (m : ℕ) (r : HeldObjects) → m < length held →
    pool_in (slice_set held m r) ≡ with_pool (pool_in held) m (pool_by r)
pool_in-set held m r h = fun_ext (λ k.
    ap pool_by (get_or-slice_set held m k r none_held h)
    ∙ pool_by-if (k == m) r (held_at held k)
    ∙ ap (λ b. if b then pool_by r else pool_in held k) (equal_turned k m))

pub pool_in-made : (held : List HeldObjects) (m : ℕ) (old new : HeldObjects) (class : ClassId) (slots : List Value) →
    m < length held → old ≡ get_or held m old →
    new ≡ with_next old (record { class = class; slots = slots; monitor = Free }) →
    pool_in (slice_set held m new) ≡ with_pool (pool_in held) m (with_new (pool_in held m) class slots)
pool_in-made held m old new class slots h was is =
    let there : held_at held m ≡ old = get_or_default held m none_held old h ∙ sym was in
    let next : pool_by new ≡ with_new (pool_in held m) class slots =
    ap pool_by is ∙ (pool_by-next old class slots
    ∙ ap (λ (r : HeldObjects). with_new (pool_by r) class slots) (sym there)) in
    pool_in-set held m new h ∙ ap (with_pool (pool_in held) m) next

pub count-is : (held : List HeldObjects) (m : ℕ) (old : HeldObjects) → m < length held → old ≡ get_or held m old →
    old.count ≡ (pool_in held m).count
count-is held m old h was = ap (λ (r : HeldObjects). r.count) (sym (get_or_default held m none_held old h ∙ sym was))

-- ---- a pool changed

pub pool_in-changed : (held : List HeldObjects) (m : ℕ) (old new : HeldObjects) (change : Pool → Pool)
    → m < length held →
    old ≡ get_or held m old → pool_by new ≡ change (pool_by old) →
    pool_in (slice_set held m new) ≡ with_pool (pool_in held) m (change (pool_in held m))
pool_in-changed held m old new change h was is =
    let there : held_at held m ≡ old = get_or_default held m none_held old h ∙ sym was in
    let next : pool_by new ≡ change (pool_in held m) =
    is ∙ ap (λ (r : HeldObjects). change (pool_by r)) (sym there) in
    pool_in-set held m new h ∙ ap (with_pool (pool_in held) m) next

same_pools : (pools : ℕ → Pool) (m : ℕ) (p : Pool) → pools m ≡ p → pools ≡ with_pool pools m p
same_pools pools m p is = fun_ext (λ k. elim (tested (m == k)) [
  | inl e ↦ let same : m ≡ k = eqb-true m k e in rw e (ap pools (sym same) ∙ is)
  | inr e ↦ rw e refl
])

-- no change where a maker without a pool made nothing that changes
pub pool_in-past : (held : List HeldObjects) (m : ℕ) (change : Pool → Pool) → length held ≤ m →
    change (pool_by none_held) ≡ pool_by none_held →
    pool_in held ≡ with_pool (pool_in held) m (change (pool_in held m))
pool_in-past held m change h same =
    let none : held_at held m ≡ none_held = get_or_past held m none_held h in
    same_pools (pool_in held) m (change (pool_in held m)) (ap pool_by none ∙ sym same
    ∙ ap (λ (r : HeldObjects). change (pool_by r)) (sym none))
