-- Objects as a pool keeps them: their numbers, their monitors, and changes.
use Rattle.std.proofs.Common.{◌≡◌, ◌<◌, ◌≤◌, ◌+◌, ◌-◌, ◌⊎◌, ℕ, zero, suc, true, false, List, [], ◌∷◌, ◌++◌, Option}
use Rattle.std.proofs.Common.{Some, None}
use Rattle.std.proofs.Common.{length, get_or, slice_get, slice_set, refl, sym, subst, ap, ◌∙◌, ◌==◌, eqb-true, inl, inr}
use Rattle.std.proofs.Common.{if◌then◌else◌, take, arith}
use Rattle.std.specs.Prelude.{IsSome, option_map}
use Rattle.std.specs.List.{range_with_len}
use Rattle.std.specs.List.Sorted.{IsNonDecreasingBy}
use Rattle.std.proofs.lemmas.List.{length_push, append-nil}
use Rattle.std.proofs.lemmas.Option.{get_or_from_slice_get, slice_get-get_or}
use Rattle.vm_state.specs.declared.object.Object.{Object}
use Rattle.vm_state.specs.declared.object.Monitor.{Monitor}
use Rattle.vm_state.specs.declared.object.Monitor.TheVariants.{Free}
use Rattle.built_in.specs.declared.class_id.ClassId.{ClassId}
use Rattle.built_in.specs.declared.class_id.ClassId.TheVariants.{Given}
use Rattle.vm_state.specs.declared.kept.Kept.{Kept}
use Rattle.vm_state.specs.Objects.{AscendsFrom, kept_of, numbered_kept, object_in, or_later}
use Rattle.vm_state.specs.SharedState.{Pool, form_at, object_with_monitor, monitor_of, with_object}
use Rattle.vm_state.specs.Pools.{pool_by}
use Rattle.vm_state.specs.steps.Objects.{IsKept, numbers_of, numbers_in, objects_of, object_at_place, with_monitor_in}
use Rattle.vm_state.specs.steps.Owners.{monitor_in, IsMonitorSet}
use Rattle.vm_state.proofs.ListLemmas.{tested, item_at}
use Rattle.vm_state.proofs.SlotLemmas.{IsChanged, changed_at}
use Rattle.vm_state.proofs.ObjectLemmas.{rises, found_at, searched_within}

pub below_or_not : (a b : ℕ) → (a < b) ⊎ (b ≤ a)
below_or_not zero zero = inr (omega arith)
below_or_not zero (suc b) = inl (omega arith)
below_or_not (suc a) zero = inr (omega arith)
below_or_not (suc a) (suc b) = elim (below_or_not a b) [
  | inl less ↦ inl (omega (arith, less))
  | inr more ↦ inr (omega (arith, more))
]

-- ---- numbers

counted_at : (a plain p : ℕ) (later : List ℕ) → p < plain →
    slice_get (range_with_len a plain ++ later) p ≡ Some (a + p)
counted_at a zero p later h = absurd (omega (arith, h))
counted_at a (suc n) zero later h = ap Some (omega arith)
counted_at a (suc n) (suc p) later h =
    counted_at (a + 1) n p later (omega (arith, h)) ∙ ap Some (omega arith)

after_at : (a plain p : ℕ) (later : List ℕ) → plain ≤ p →
    slice_get (range_with_len a plain ++ later) p ≡ slice_get later (p - plain)
after_at a zero p later h = ap (slice_get later) (omega arith)
after_at a (suc n) zero later h = absurd (omega (arith, h))
after_at a (suc n) (suc p) later h =
    after_at (a + 1) n p later (omega (arith, h)) ∙ ap (slice_get later) (omega arith)

pub number_before : (plain p : ℕ) (later : List ℕ) → p < plain → slice_get (numbers_of plain later) p ≡ Some p
number_before plain p later h = counted_at 0 plain p later h ∙ ap Some (omega arith)

pub number_after : (plain p : ℕ) (later : List ℕ) → plain ≤ p →
    slice_get (numbers_of plain later) p ≡ slice_get later (p - plain)
number_after plain p later h = after_at 0 plain p later h

pub get_before : (plain p d : ℕ) (later : List ℕ) → p < plain → get_or (numbers_of plain later) p d ≡ p
get_before plain p d later h =
    get_or_from_slice_get (numbers_of plain later) p p d (number_before plain p later h)

get_after_at : (a plain p d : ℕ) (later : List ℕ) → plain ≤ p →
    get_or (range_with_len a plain ++ later) p d ≡ get_or later (p - plain) d
get_after_at a zero p d later h = ap (λ (i : ℕ). get_or later i d) (omega arith)
get_after_at a (suc n) zero d later h = absurd (omega (arith, h))
get_after_at a (suc n) (suc p) d later h =
    get_after_at (a + 1) n p d later (omega (arith, h)) ∙ ap (λ (i : ℕ). get_or later i d) (omega arith)

pub get_after : (plain p d : ℕ) (later : List ℕ) → plain ≤ p →
    get_or (numbers_of plain later) p d ≡ get_or later (p - plain) d
get_after plain p d later h = get_after_at 0 plain p d later h

pub length_counted : (a plain : ℕ) (later : List ℕ) → length (range_with_len a plain ++ later) ≡ plain + length later
length_counted a zero later = omega arith
length_counted a (suc n) later =
    let rest : length (range_with_len (a + 1) n ++ later) ≡ n + length later = length_counted (a + 1) n later in
    omega (arith, rest)

pub length_numbers : (later : List ℕ) (ks : List Kept) → length later ≤ length ks →
    length (numbers_in later ks) ≡ length ks
length_numbers later ks h = length_counted 0 (length ks - length later) later ∙ omega (arith, h)

-- ---- what stands at a place

pub length_objects : (w : List (ℕ × Monitor)) (ns : List ℕ) (ks : List Kept) → length ns ≡ length ks →
    length (objects_of w ns ks) ≡ length ks
length_objects w [] [] h = refl
length_objects w [] (k ∷ ks) h = absurd (omega (arith, h))
length_objects w (n ∷ ns) [] h = absurd (omega (arith, h))
length_objects w (n ∷ ns) (k ∷ ks) h = ap suc (length_objects w ns ks (omega (arith, h)))

pub stands_there : (w : List (ℕ × Monitor)) (ns : List ℕ) (ks : List Kept) (p n : ℕ) (k : Kept) →
    slice_get ns p ≡ Some n → slice_get ks p ≡ Some k →
    slice_get (objects_of w ns ks) p ≡ Some (n, with_monitor_in w n k)
stands_there w [] ks p n k number kept = cc
stands_there w (x ∷ ns) [] p n k number kept = cc
stands_there w (x ∷ ns) (y ∷ ks) zero n k number kept =
    let same : x ≡ n = cc in
    let kind : y ≡ k = cc in
    ap (λ (j : ℕ). Some (j, with_monitor_in w j y)) same ∙ ap (λ (z : Kept). Some (n, with_monitor_in w n z)) kind
stands_there w (x ∷ ns) (y ∷ ks) (suc p) n k number kept = stands_there w ns ks p n k number kept

-- what stands at a place is of the number that stands there
pub numbered_at : (w : List (ℕ × Monitor)) (ns : List ℕ) (ks : List Kept) (p n : ℕ) →
    IsSome (object_at_place (objects_of w ns ks) p n) → slice_get ns p ≡ Some n
numbered_at w [] ks p n some = cc
numbered_at w (x ∷ ns) [] p n some = cc
numbered_at w (x ∷ ns) (y ∷ ks) zero n some = elim (tested (n == x)) [
  | inl e ↦ ap Some (sym (eqb-true n x e))
  | inr e ↦ let none : false ≡ true = rw e at some in cc
]
numbered_at w (x ∷ ns) (y ∷ ks) (suc p) n some = numbered_at w ns ks p n some

-- what is found at a place
pub kept_at : (w : List (ℕ × Monitor)) (ns : List ℕ) (ks : List Kept) (p n : ℕ) (o : Object) →
    object_at_place (objects_of w ns ks) p n ≡ Some o → slice_get ks p ≡ Some (kept_of o)
kept_at w [] ks p n o is = cc
kept_at w (x ∷ ns) [] p n o is = cc
kept_at w (x ∷ ns) (y ∷ ks) zero n o is = elim (tested (n == x)) [
  | inl e ↦
      let there : Some (with_monitor_in w x y) ≡ Some o = rw e at is in
      let same : with_monitor_in w x y ≡ o = cc in
      ap (λ (z : Object). Some (kept_of z)) same
  | inr e ↦ let none : None ≡ Some o = rw e at is in cc
]
kept_at w (x ∷ ns) (y ∷ ks) (suc p) n o is = kept_at w ns ks p n o is

pub monitor_at : (w : List (ℕ × Monitor)) (ns : List ℕ) (ks : List Kept) (p n : ℕ) (o : Object) →
    object_at_place (objects_of w ns ks) p n ≡ Some o → monitor_in w n ≡ o.monitor
monitor_at w [] ks p n o is = cc
monitor_at w (x ∷ ns) [] p n o is = cc
monitor_at w (x ∷ ns) (y ∷ ks) zero n o is = elim (tested (n == x)) [
  | inl e ↦
      let there : Some (with_monitor_in w x y) ≡ Some o = rw e at is in
      let same : with_monitor_in w x y ≡ o = cc in
      ap (monitor_in w) (eqb-true n x e) ∙ ap (λ (z : Object). z.monitor) same
  | inr e ↦ let none : None ≡ Some o = rw e at is in cc
]
monitor_at w (x ∷ ns) (y ∷ ks) (suc p) n o is = monitor_at w ns ks p n o is

pub is_there : (w : List (ℕ × Monitor)) (ns : List ℕ) (ks : List Kept) (p n : ℕ) → length ns ≡ length ks →
    slice_get ns p ≡ Some n → IsSome (object_at_place (objects_of w ns ks) p n)
is_there w [] ks p n h number = cc
is_there w (x ∷ ns) [] p n h number = absurd (omega (arith, h))
is_there w (x ∷ ns) (y ∷ ks) zero n h number =
    let same : x ≡ n = cc in
    let e : (n == x) ≡ true = grind arith in
    rw e refl
is_there w (x ∷ ns) (y ∷ ks) (suc p) n h number = is_there w ns ks p n (omega (arith, h)) number

pub is_not_there : (w : List (ℕ × Monitor)) (ns : List ℕ) (ks : List Kept) (p k : ℕ) →
    ((n : ℕ) → slice_get ns p ≡ Some n → (k == n) ≡ false) → object_at_place (objects_of w ns ks) p k ≡ None
is_not_there w [] ks p k other = refl
is_not_there w (x ∷ ns) [] p k other = refl
is_not_there w (x ∷ ns) (y ∷ ks) zero k other =
    let e : (k == x) ≡ false = other x refl in
    rw e refl
is_not_there w (x ∷ ns) (y ∷ ks) (suc p) k other = is_not_there w ns ks p k other

-- ---- numbers in order

pub number_of : (w : List (ℕ × Monitor)) (ns : List ℕ) (ks : List Kept) (i d : ℕ) (o : ℕ × Object) →
    length ns ≡ length ks → i < length ns → (get_or (objects_of w ns ks) i o).0 ≡ get_or ns i d
number_of w [] ks i d o h inside = absurd (omega (arith, inside))
number_of w (x ∷ ns) [] i d o h inside = absurd (omega (arith, h))
number_of w (x ∷ ns) (y ∷ ks) zero d o h inside = refl
number_of w (x ∷ ns) (y ∷ ks) (suc i) d o h inside =
    number_of w ns ks i d o (omega (arith, h)) (omega (arith, inside))

some_object : ℕ × Object
some_object = (0, record { class = Given 0; slots = []; monitor = Free })

pub later_rise : (w : List (ℕ × Monitor)) (later : List ℕ) (ks : List Kept) (count : ℕ) → length later ≤ length ks →
    AscendsFrom 0 (objects_of w (numbers_in later ks) ks) count → IsNonDecreasingBy (λ (n : ℕ). n) later
later_rise w later ks count h up i j d le inside =
    let plain : ℕ = length ks - length later in
    let ns : List ℕ = numbers_in later ks in
    let all : length ns ≡ length ks = length_numbers later ks h in
    let rise = rises 0 (objects_of w ns ks) count up (plain + i) (plain + j) some_object (omega (arith, le))
    (omega (arith, inside, h, length_objects w ns ks all)) in
    let one : (get_or (objects_of w ns ks) (plain + i) some_object).0 ≡ get_or later i d =
    number_of w ns ks (plain + i) d some_object all (omega (arith, le, inside, h, all))
    ∙ (get_after plain (plain + i) d later (omega arith) ∙ ap (λ (k : ℕ). get_or later k d) (omega arith)) in
    let two : (get_or (objects_of w ns ks) (plain + j) some_object).0 ≡ get_or later j d =
    number_of w ns ks (plain + j) d some_object all (omega (arith, inside, h, all))
    ∙ (get_after plain (plain + j) d later (omega arith) ∙ ap (λ (k : ℕ). get_or later k d) (omega arith)) in
    omega (arith, rise, one, two)

-- where no number at the place of a search is this one, no object is
pub none_found : (w : List (ℕ × Monitor)) (ns : List ℕ) (ks : List Kept) (count place k : ℕ) → length ns ≡ length ks →
    AscendsFrom 0 (objects_of w ns ks) count →
    ((i : ℕ) (d : ℕ) → i < place → i < length ns → get_or ns i d < k) →
    ((d : ℕ) → place < length ns → k ≤ get_or ns place d) →
    ((n : ℕ) → slice_get ns place ≡ Some n → (k == n) ≡ false) → object_in (objects_of w ns ks) k ≡ None
none_found w ns ks count place k all up before after other =
    sym searched ∙ is_not_there w ns ks place k other where
      searched : object_at_place (objects_of w ns ks) place k ≡ object_in (objects_of w ns ks) k
      searched = searched_within (objects_of w ns ks) count place k up
          (λ i d first inside.
          let within : i < length ns = omega (arith, inside, all, length_objects w ns ks all) in
          let is : (get_or (objects_of w ns ks) i d).0 ≡ get_or ns i 0 = number_of w ns ks i 0 d all within in
          omega (arith, is, before i 0 first within))
          (λ d inside.
          let within : place < length ns = omega (arith, inside, all, length_objects w ns ks all) in
          let is : (get_or (objects_of w ns ks) place d).0 ≡ get_or ns place 0 = number_of w ns ks place 0 d all
          within in
          omega (arith, is, after 0 within))

pub found_kept : (w : List (ℕ × Monitor)) (ns : List ℕ) (ks : List Kept) (count p n : ℕ) →
    AscendsFrom 0 (objects_of w ns ks) count → IsSome (object_at_place (objects_of w ns ks) p n) →
    slice_get ks p ≡ option_map kept_of (object_in (objects_of w ns ks) n)
found_kept w ns ks count p n up some = by (object_at_place (objects_of w ns ks) p n) refl some where
  by : (o : Option Object) → object_at_place (objects_of w ns ks) p n ≡ o → IsSome o →
      slice_get ks p ≡ option_map kept_of (object_in (objects_of w ns ks) n)
  by None is some = cc
  by (Some o) is some =
      kept_at w ns ks p n o is
      ∙ ap (option_map kept_of) (sym (found_at 0 (objects_of w ns ks) count p n o up is))

pub found_monitor : (w : List (ℕ × Monitor)) (ns : List ℕ) (ks : List Kept) (count p n : ℕ) →
    AscendsFrom 0 (objects_of w ns ks) count → IsSome (object_at_place (objects_of w ns ks) p n) →
    monitor_in w n ≡ monitor_of (object_in (objects_of w ns ks) n)
found_monitor w ns ks count p n up some = by (object_at_place (objects_of w ns ks) p n) refl some where
  by : (o : Option Object) → object_at_place (objects_of w ns ks) p n ≡ o → IsSome o →
      monitor_in w n ≡ monitor_of (object_in (objects_of w ns ks) n)
  by None is some = cc
  by (Some o) is some =
      monitor_at w ns ks p n o is
      ∙ ap monitor_of (sym (found_at 0 (objects_of w ns ks) count p n o up is))

-- ---- one more

numbers_first : (later : List ℕ) (ks new : List Kept) (n : ℕ) → length later ≡ 0 →
    range_with_len 0 (length new) ≡ range_with_len 0 (length ks) ++ n ∷ [] →
    numbers_in later new ≡ numbers_in later ks ++ n ∷ []
numbers_first [] ks new n none counted =
    append-nil (range_with_len 0 (length new - 0)) ∙ (ap (range_with_len 0) (omega arith) ∙ (counted
    ∙ ap (λ (is : List ℕ). is ++ n ∷ []) (ap (range_with_len 0) (omega arith)
    ∙ sym (append-nil (range_with_len 0 (length ks - 0))))))
numbers_first (l ∷ ls) ks new n none counted = absurd (omega (arith, none))

pub objects_more : (w : List (ℕ × Monitor)) (ns : List ℕ) (ks : List Kept) (n : ℕ) (k : Kept) → length ns ≡ length ks →
    objects_of w (ns ++ n ∷ []) (ks ++ k ∷ []) ≡ objects_of w ns ks ++ (n, with_monitor_in w n k) ∷ []
objects_more w [] [] n k h = refl
objects_more w [] (y ∷ ks) n k h = absurd (omega (arith, h))
objects_more w (x ∷ ns) [] n k h = absurd (omega (arith, h))
objects_more w (x ∷ ns) (y ∷ ks) n k h =
    ap (λ (os : List (ℕ × Object)). (x, with_monitor_in w x y) ∷ os) (objects_more w ns ks n k (omega (arith, h)))

counted_more : (a n j : ℕ) → a + n ≡ j → range_with_len a (suc n) ≡ range_with_len a n ++ j ∷ []
counted_more a zero j e = ap (λ (i : ℕ). i ∷ []) (omega (arith, e))
counted_more a (suc n) j e =
    ap (λ (is : List ℕ). a ∷ is) (counted_more (a + 1) n j (omega (arith, e)))

-- the next one, where none was left out
pub kept_first : (later : List ℕ) (ks new : List Kept) (n : ℕ) (k : Kept) → length later ≡ 0 → n ≡ length ks →
    new ≡ ks ++ k ∷ [] → IsKept later ks n k later new
kept_first later ks new n k none number is =
    let more : length new ≡ suc (length ks) = ap length is ∙ (length_push ks k ∙ omega arith) in
    let counted : range_with_len 0 (length new) ≡ range_with_len 0 (length ks) ++ n ∷ [] =
    ap (range_with_len 0) more ∙ counted_more 0 (length ks) n (omega (arith, number)) in
    record {
      numbers = numbers_first later ks new n none counted;
      objects = is;
      fits = omega (arith, none);
    }

-- ---- an object changed

pub objects_set : (w : List (ℕ × Monitor)) (ns : List ℕ) (ks : List Kept) (p n : ℕ) (k : Kept) →
    slice_get ns p ≡ Some n → p < length ks →
    objects_of w ns (slice_set ks p k) ≡ slice_set (objects_of w ns ks) p (n, with_monitor_in w n k)
objects_set w [] ks p n k number inside = cc
objects_set w (x ∷ ns) [] p n k number inside = absurd (omega (arith, inside))
objects_set w (x ∷ ns) (y ∷ ks) zero n k number inside =
    let same : x ≡ n = cc in
    ap (λ (j : ℕ). (j, with_monitor_in w j k) ∷ objects_of w ns ks) same
objects_set w (x ∷ ns) (y ∷ ks) (suc p) n k number inside =
    ap (λ (os : List (ℕ × Object)). (x, with_monitor_in w x y) ∷ os)
    (objects_set w ns ks p n k number (omega (arith, inside)))

-- ---- monitors changed

pub ascends_so : (v w : List (ℕ × Monitor)) (low : ℕ) (ns : List ℕ) (ks : List Kept) (count : ℕ) →
    AscendsFrom low (objects_of v ns ks) count → AscendsFrom low (objects_of w ns ks) count
ascends_so v w low [] ks count h = h
ascends_so v w low (n ∷ ns) [] count h = h
ascends_so v w low (n ∷ ns) (k ∷ ks) count (h, hs) = (h, ascends_so v w (n + 1) ns ks count hs)

same_owner : (v w : List (ℕ × Monitor)) (ns : List ℕ) (ks : List Kept) (i : ℕ) → monitor_in w i ≡ monitor_in v i →
    object_in (objects_of w ns ks) i ≡ object_in (objects_of v ns ks) i
same_owner v w [] ks i is = refl
same_owner v w (x ∷ ns) [] i is = refl
same_owner v w (x ∷ ns) (y ∷ ks) i is = elim (tested (i == x)) [
  | inl e ↦
      let same : i ≡ x = eqb-true i x e in
      let there : monitor_in w x ≡ monitor_in v x = subst (λ (j : ℕ). monitor_in w j ≡ monitor_in v j) same is in
      let first : with_monitor_in w x y ≡ with_monitor_in v x y =
      ap (λ (m : Monitor). record { class = y.class; slots = y.slots; monitor = m }) there in
      rw e (ap (λ (o : Object). or_later (Some o) (object_in (objects_of w ns ks) i)) first
      ∙ ap (or_later (Some (with_monitor_in v x y))) (same_owner v w ns ks i is))
  | inr e ↦ rw e (ap (or_later None) (same_owner v w ns ks i is))
]

later_changed : (m : Monitor) (first later : Option Object) →
    or_later (option_map (object_with_monitor m) first) (option_map (object_with_monitor m) later)
    ≡ option_map (object_with_monitor m) (or_later first later)
later_changed m first None = refl
later_changed m first (Some o) = refl

new_owner : (v w : List (ℕ × Monitor)) (ns : List ℕ) (ks : List Kept) (i : ℕ) (m : Monitor) → monitor_in w i ≡ m →
    object_in (objects_of w ns ks) i ≡ option_map (object_with_monitor m) (object_in (objects_of v ns ks) i)
new_owner v w [] ks i m is = refl
new_owner v w (x ∷ ns) [] i m is = refl
new_owner v w (x ∷ ns) (y ∷ ks) i m is = elim (tested (i == x)) [
  | inl e ↦
      let same : i ≡ x = eqb-true i x e in
      let there : monitor_in w x ≡ m = subst (λ (j : ℕ). monitor_in w j ≡ m) same is in
      let first : with_monitor_in w x y ≡ object_with_monitor m (with_monitor_in v x y) =
      ap (λ (k : Monitor). record { class = y.class; slots = y.slots; monitor = k }) there in
      rw e (ap (λ (o : Object). or_later (Some o) (object_in (objects_of w ns ks) i)) first
      ∙ (ap (or_later (Some (object_with_monitor m (with_monitor_in v x y)))) (new_owner v w ns ks i m is)
      ∙ later_changed m (Some (with_monitor_in v x y)) (object_in (objects_of v ns ks) i)))
  | inr e ↦ rw e (ap (or_later None) (new_owner v w ns ks i m is)
      ∙ later_changed m None (object_in (objects_of v ns ks) i))
]

pub owner_changed : (v w : List (ℕ × Monitor)) (ns : List ℕ) (ks : List Kept) (n : ℕ) (m : Monitor) →
    IsMonitorSet v w n m → (i : ℕ) → object_in (objects_of w ns ks) i
    ≡ (if i == n then option_map (object_with_monitor m) (object_in (objects_of v ns ks) n)
    else object_in (objects_of v ns ks) i)
owner_changed v w ns ks n m set i = elim (tested (i == n)) [
  | inl e ↦
      let same : i ≡ n = eqb-true i n e in
      let now : monitor_in w i ≡ (if i == n then m else monitor_in v i) = set i in
      let there : monitor_in w i ≡ m = rw e at now in
      let owned : object_in (objects_of w ns ks) i ≡ option_map (object_with_monitor m) (object_in
      (objects_of v ns ks) i) =
      new_owner v w ns ks i m there in
      rw e (owned ∙ ap (λ (j : ℕ). option_map (object_with_monitor m) (object_in (objects_of v ns ks) j)) same)
  | inr e ↦
      let now : monitor_in w i ≡ (if i == n then m else monitor_in v i) = set i in
      let there : monitor_in w i ≡ monitor_in v i = rw e at now in
      rw e (same_owner v w ns ks i there)
]

-- ---- parts of an object without its monitor

pub class_of_kept : (o : Option Object) → option_map (λ (k : Kept). k.class) (option_map kept_of o)
    ≡ option_map (λ (x : Object). x.class) o
class_of_kept None = refl
class_of_kept (Some o) = refl

pub slots_of_kept : (o : Option Object) → option_map (λ (k : Kept). k.slots) (option_map kept_of o)
    ≡ option_map (λ (x : Object). x.slots) o
slots_of_kept None = refl
slots_of_kept (Some o) = refl

-- of what class an object is that is kept, and how many slots it has
abbrev pub formed : ClassId → ℕ → Option (ClassId × ℕ)
formed c n = Some (c, n)

pub form_of_kept : (p : Pool) (n : ℕ) (k : Kept) (c : ClassId) → Some k ≡ option_map kept_of (p.at n) →
    k.class ≡ c → form_at p n ≡ Some (c, length k.slots)
form_of_kept p n k c is class = by (p.at n) refl is where
  form : Option Object → Option (ClassId × ℕ)
  form o = option_map {U = ClassId × ℕ} (λ (x : Object). (x.class, length x.slots)) o

  by : (o : Option Object) → p.at n ≡ o → Some k ≡ option_map kept_of o → form (p.at n) ≡ Some (c, length k.slots)
  by None there is = cc
  by (Some o) there is =
      let same : k ≡ kept_of o = cc in
      ap form there
      ∙ ap (λ (z : Kept). formed z.class (length z.slots)) (sym same)
      ∙ ap (λ (d : ClassId). formed d (length k.slots)) class

-- ---- what is at a place

pub seen : (w : List (ℕ × Monitor)) (ns : List ℕ) (ks : List Kept) (p n : ℕ) (k : Kept) → slice_get ns p ≡ Some n →
    slice_get ks p ≡ Some k → Some (n, k) ≡ option_map numbered_kept (slice_get (objects_of w ns ks) p)
seen w ns ks p n k number kept =
    sym (ap (option_map numbered_kept) (stands_there w ns ks p n k number kept))

pub nothing_numbered : (w : List (ℕ × Monitor)) (ns : List ℕ) (ks : List Kept) (p : ℕ) → slice_get ns p ≡ None →
    slice_get (objects_of w ns ks) p ≡ None
nothing_numbered w [] ks p none = refl
nothing_numbered w (x ∷ ns) [] p none = refl
nothing_numbered w (x ∷ ns) (y ∷ ks) zero none = cc
nothing_numbered w (x ∷ ns) (y ∷ ks) (suc p) none = nothing_numbered w ns ks p none

pub nothing_kept : (w : List (ℕ × Monitor)) (ns : List ℕ) (ks : List Kept) (p : ℕ) → slice_get ks p ≡ None →
    slice_get (objects_of w ns ks) p ≡ None
nothing_kept w [] ks p none = refl
nothing_kept w (x ∷ ns) [] p none = refl
nothing_kept w (x ∷ ns) (y ∷ ks) zero none = cc
nothing_kept w (x ∷ ns) (y ∷ ks) (suc p) none = nothing_kept w ns ks p none

pub unnumbered : (w : List (ℕ × Monitor)) (ns : List ℕ) (ks : List Kept) (p : ℕ) → slice_get ns p ≡ None →
    None ≡ option_map numbered_kept (slice_get (objects_of w ns ks) p)
unnumbered w ns ks p none = sym (ap (option_map numbered_kept) (nothing_numbered w ns ks p none))

pub unkept : (w : List (ℕ × Monitor)) (ns : List ℕ) (ks : List Kept) (p : ℕ) → slice_get ks p ≡ None →
    None ≡ option_map numbered_kept (slice_get (objects_of w ns ks) p)
unkept w ns ks p none = sym (ap (option_map numbered_kept) (nothing_kept w ns ks p none))

pub inside_of : (w : List (ℕ × Monitor)) (ns : List ℕ) (ks : List Kept) (p n : ℕ) →
    IsSome (object_at_place (objects_of w ns ks) p n) → p < length ks
inside_of w [] ks p n some = cc
inside_of w (x ∷ ns) [] p n some = cc
inside_of w (x ∷ ns) (y ∷ ks) zero n some = omega arith
inside_of w (x ∷ ns) (y ∷ ks) (suc p) n some =
    let rest : p < length ks = inside_of w ns ks p n some in omega (arith, rest)

-- ---- a pool changed

same_length : (ks : List Kept) (p : ℕ) (k : Kept) → length (slice_set ks p k) ≡ length ks
same_length [] p k = refl
same_length (y ∷ ks) zero k = refl
same_length (y ∷ ks) (suc p) k = ap suc (same_length ks p k)

-- what a pool becomes where the object of a number changes
pub record IsHeldChanged (w : List (ℕ × Monitor)) (later : List ℕ) (ks new : List Kept) (count n : ℕ)
    (change : Object → Object) : Type 0 where
  pub ascends : AscendsFrom 0 (objects_of w (numbers_in later new) new) count
  pub fits : length later ≤ length new
  pub same : length new ≡ length ks
  pub pool : pool_by (record { count = count; objects = objects_of w (numbers_in later new) new })
      ≡ with_object (pool_by (record { count = count; objects = objects_of w (numbers_in later ks) ks })) n
      (option_map change (object_in (objects_of w (numbers_in later ks) ks) n))

pub held_changed : (w : List (ℕ × Monitor)) (later : List ℕ) (ks : List Kept) (count place n : ℕ)
    (change : Object → Object) (held new : Kept) → length later ≤ length ks →
    AscendsFrom 0 (objects_of w (numbers_in later ks) ks) count →
    IsSome (object_at_place (objects_of w (numbers_in later ks) ks) place n) → held ≡ get_or ks place held →
    with_monitor_in w n new ≡ change (with_monitor_in w n held) →
    IsHeldChanged w later ks (slice_set ks place new) count n change
held_changed w later ks count place n change held new fits up some was is =
    let ns : List ℕ = numbers_in later ks in
    let os : List (ℕ × Object) = objects_of w ns ks in
    let inside : place < length ks = inside_of w ns ks place n some in
    let number : slice_get ns place ≡ Some n = numbered_at w ns ks place n some in
    let long : length (slice_set ks place new) ≡ length ks = same_length ks place new in
    let numbers : numbers_in later (slice_set ks place new) ≡ ns =
    ap (λ (m : ℕ). numbers_of (m - length later) later) long in
    let objects : objects_of w (numbers_in later (slice_set ks place new)) (slice_set ks place new)
    ≡ slice_set os place (n, with_monitor_in w n new) =
    ap (λ (is : List ℕ). objects_of w is (slice_set ks place new)) numbers
    ∙ objects_set w ns ks place n new number inside in
    let stands : slice_get os place ≡ Some (n, with_monitor_in w n held) =
    stands_there w ns ks place n held number (item_at ks place held inside was) in
    let there : (n, with_monitor_in w n held) ≡ get_or os place (n, with_monitor_in w n held) =
    sym (get_or_from_slice_get os place (n, with_monitor_in w n held) (n, with_monitor_in w n held) stands) in
    let changed : IsChanged count os (slice_set os place (n, with_monitor_in w n new)) n change =
    changed_at count os place n change (n, with_monitor_in w n held) (with_monitor_in w n new) up some there is in
    record {
      ascends = subst (λ (all : List (ℕ × Object)). AscendsFrom 0 all count) (sym objects) changed.0;
      fits = omega (arith, fits, long);
      same = long;
      pool = ap (λ (all : List (ℕ × Object)). pool_by (record { count = count; objects = all })) objects ∙ changed.1;
    }

-- ---- one more at the end

pub held_more : (w : List (ℕ × Monitor)) (later : List ℕ) (ks : List Kept) (n : ℕ) (k : Kept) (beside : List ℕ)
    (new : List Kept) → length later ≤ length ks → IsKept later ks n k beside new →
    objects_of w (numbers_in beside new) new ≡ objects_of w (numbers_in later ks) ks ++ (n, with_monitor_in w n k) ∷ []
held_more w later ks n k beside new fits kept =
    ap (λ (is : List ℕ). objects_of w is new) kept.numbers
    ∙ (ap (objects_of w (numbers_in later ks ++ n ∷ [])) kept.objects
    ∙ objects_more w (numbers_in later ks) ks n k (length_numbers later ks fits))

ascends_to : (low : ℕ) (os : List (ℕ × Object)) (count : ℕ) → AscendsFrom low os count → low ≤ count
ascends_to low [] count h = h
ascends_to low (x ∷ xs) count (h, hs) =
    let rest : x.0 + 1 ≤ count = ascends_to (x.0 + 1) xs count hs in omega (arith, h, rest)

pub held_below : (low : ℕ) (os : List (ℕ × Object)) (count p n : ℕ) → AscendsFrom low os count →
    IsSome (object_at_place os p n) → n < count
held_below low [] count p n h some = cc
held_below low (x ∷ xs) count zero n (h, hs) some = elim (tested (n == x.0)) [
  | inl e ↦
      let same : n ≡ x.0 = eqb-true n x.0 e in
      let rest : x.0 + 1 ≤ count = ascends_to (x.0 + 1) xs count hs in omega (arith, same, rest)
  | inr e ↦ let none : false ≡ true = rw e at some in cc
]
held_below low (x ∷ xs) count (suc p) n (h, hs) some = held_below (x.0 + 1) xs count p n hs some

pub last_below : (low : ℕ) (os : List (ℕ × Object)) (count n : ℕ) (o : Object) →
    AscendsFrom low (os ++ (n, o) ∷ []) count → n < count
last_below low [] count n o (h, hs) = omega (arith, hs)
last_below low (x ∷ xs) count n o (h, hs) = last_below (x.0 + 1) xs count n o hs

last_above : (low : ℕ) (os : List (ℕ × Object)) (count n : ℕ) (o : Object) →
    AscendsFrom low (os ++ (n, o) ∷ []) count → low ≤ n
last_above low [] count n o (h, hs) = h
last_above low (x ∷ xs) count n o (h, hs) =
    let rest : x.0 + 1 ≤ n = last_above (x.0 + 1) xs count n o hs in omega (arith, h, rest)

apart : (a b : ℕ) → a < b → (a == b) ≡ false
apart a b h = grind arith

pub apart_above : (a b : ℕ) → b < a → (a == b) ≡ false
apart_above a b h = grind arith

pub same_objects : (v w : List (ℕ × Monitor)) (low : ℕ) (ns : List ℕ) (ks : List Kept) (count n : ℕ) (o : Object) →
    AscendsFrom low (objects_of v ns ks ++ (n, o) ∷ []) count →
    ((k : ℕ) → (k == n) ≡ false → monitor_in w k ≡ monitor_in v k) → objects_of w ns ks ≡ objects_of v ns ks
same_objects v w low [] ks count n o h others = refl
same_objects v w low (x ∷ ns) [] count n o h others = refl
same_objects v w low (x ∷ ns) (y ∷ ks) count n o (h, hs) others =
    let before : x + 1 ≤ n = last_above (x + 1) (objects_of v ns ks) count n o hs in
    let there : monitor_in w x ≡ monitor_in v x = others x (apart x n (omega (arith, before))) in
    ap (λ (m : Monitor). (x, record { class = y.class; slots = y.slots; monitor = m }) ∷ objects_of w ns ks) there
    ∙ ap (λ (os : List (ℕ × Object)). (x, with_monitor_in v x y) ∷ os)
    (same_objects v w (x + 1) ns ks count n o hs others)

pub ascends_with : (v w : List (ℕ × Monitor)) (low : ℕ) (ns : List ℕ) (ks : List Kept) (count n : ℕ) (o p : Object) →
    AscendsFrom low (objects_of v ns ks ++ (n, o) ∷ []) count → AscendsFrom low (objects_of w ns ks ++
    (n, p) ∷ []) count
ascends_with v w low [] ks count n o p h = h
ascends_with v w low (x ∷ ns) [] count n o p h = h
ascends_with v w low (x ∷ ns) (y ∷ ks) count n o p (h, hs) = (h, ascends_with v w (x + 1) ns ks count n o p hs)

pub others_same : (v w : List (ℕ × Monitor)) (n : ℕ) (m : Monitor) → IsMonitorSet v w n m → (k : ℕ) →
    (k == n) ≡ false → monitor_in w k ≡ monitor_in v k
others_same v w n m set k e =
    let now : monitor_in w k ≡ (if k == n then m else monitor_in v k) = set k in
    rw e at now

pub owned_now : (v w : List (ℕ × Monitor)) (n : ℕ) (m : Monitor) → IsMonitorSet v w n m → monitor_in w n ≡ m
owned_now v w n m set =
    let now : monitor_in w n ≡ (if n == n then m else monitor_in v n) = set n in
    let e : (n == n) ≡ true = grind arith in
    rw e at now

-- those that are not made yet stay free
pub still_free : (v w : List (ℕ × Monitor)) (n count : ℕ) (m : Monitor) → IsMonitorSet v w n m → n < count →
    ((k : ℕ) → count ≤ k → monitor_in v k ≡ Free) → (k : ℕ) → count ≤ k → monitor_in w k ≡ Free
still_free v w n count m set below free k h =
    others_same v w n m set k (apart_above k n (omega (arith, below, h))) ∙ free k h

objects_end : (w : List (ℕ × Monitor)) (ns : List ℕ) (x : ℕ) (k : Kept) →
    objects_of w (x ∷ ns) (k ∷ []) ≡ (x, with_monitor_in w x k) ∷ []
objects_end w [] x k = refl
objects_end w (y ∷ ns) x k = refl

pub objects_next : (w : List (ℕ × Monitor)) (ns : List ℕ) (ks : List Kept) (n : ℕ) (k : Kept) →
    slice_get ns (length ks) ≡ Some n →
    objects_of w ns (ks ++ k ∷ []) ≡ objects_of w ns ks ++ (n, with_monitor_in w n k) ∷ []
objects_next w [] ks n k number = cc
objects_next w (x ∷ ns) [] n k number =
    let same : x ≡ n = cc in
    objects_end w ns x k ∙ ap (λ (j : ℕ). (j, with_monitor_in w j k) ∷ []) same
objects_next w (x ∷ ns) (y ∷ ks) n k number =
    ap (λ (os : List (ℕ × Object)). (x, with_monitor_in w x y) ∷ os) (objects_next w ns ks n k number)

pub next_there : (plain : ℕ) (later : List ℕ) (i : ℕ) → i < plain + length later →
    slice_get (numbers_of plain later) i ≡ Some (get_or (numbers_of plain later) i 0)
next_there plain later i h = slice_get-get_or (numbers_of plain later) i 0 (omega
    (arith, h, length_counted 0 plain later))

pub ascends_take : (low : ℕ) (os : List (ℕ × Object)) (count i : ℕ) → AscendsFrom low os count →
    AscendsFrom low (take i os) count
ascends_take low [] count zero h = h
ascends_take low [] count (suc i) h = h
ascends_take low (x ∷ xs) count zero (h, hs) =
    let rest : x.0 + 1 ≤ count = ascends_to (x.0 + 1) xs count hs in omega (arith, h, rest)
ascends_take low (x ∷ xs) count (suc i) (h, hs) = (h, ascends_take (x.0 + 1) xs count i hs)

pub objects_none : (w : List (ℕ × Monitor)) (ns : List ℕ) → objects_of w ns [] ≡ []
objects_none w [] = refl
objects_none w (n ∷ ns) = refl

-- ---- the first ones

-- what lies at the place of its number
pub plain_there : (w : List (ℕ × Monitor)) (later : List ℕ) (ks : List Kept) (n : ℕ) → length later ≤ length ks →
    n < length ks - length later → IsSome (object_at_place (objects_of w (numbers_in later ks) ks) n n)
plain_there w later ks n fits inside =
    is_there w (numbers_in later ks) ks n n (length_numbers later ks fits)
    (number_before (length ks - length later) n later inside)
