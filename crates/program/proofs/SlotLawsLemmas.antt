-- The slots that fields have.
use Rattle.std.proofs.Common.{◌≡◌, ℕ, zero, suc, ◌+◌, Bool, true, false, cond, List, [], ◌∷◌, ◌++◌, length, take, Some}
use Rattle.std.proofs.Common.{slice_get, refl, ap, ◌∙◌, arith}
use Rattle.std.specs.List.{count_by, filter}
use Rattle.std.proofs.lemmas.List.Sums.{sum_by-cons}
use Rattle.classfile.specs.ClassFile.{ClassFile}
use Rattle.classfile.specs.declared.member.Member.{Member}
use Rattle.loading.specs.declared.given.Superclass.TheVariants as super
use Rattle.loading.specs.Families.{Family, IsFamily, AreParentsWithin, file_in, superclass_in}
use Rattle.loading.proofs.PlaceLemmas.{mapped_at}
use Rattle.program.specs.declared.runtime_constant.FieldKind.{FieldKind}
use Rattle.program.specs.InstanceFields.{is_instance_field, kind_of, own_kinds, own_kinds_if, built_in_kinds}
use Rattle.program.specs.InstanceFields.{slots_of, slots_before, slot_after, slot_in, slot_of}
use Rattle.program.specs.steps.Slots.{given_class, slots_if}
use Rattle.program.proofs.SlotsLemmas.{slots_split, slots_whole}

abbrev as_number : Bool → ℕ
as_number b = cond b 1 0

-- an element that passes has as many before it among those that pass as pass before it
pub kept_place : {X : Type 0} (p : X → Bool) (xs : List X) (j : ℕ) (x : X) → slice_get xs j ≡ Some x → p x ≡ true
    → slice_get (filter p xs) (count_by p (take j xs)) ≡ Some x
kept_place p [] j x h passed = absurd cc
kept_place p (y ∷ ys) zero x h passed =
    let same : y ≡ x = cc in
    let first : p y ≡ true = ap p same ∙ passed in
    rw first (ap Some same)
kept_place {X = X} p (y ∷ ys) (suc j) x h passed = by (p y) refl (kept_place p ys j x h passed)
  where
    count : count_by p (y ∷ take j ys) ≡ as_number (p y) + count_by p (take j ys)
    count = sum_by-cons (λ (z : X). cond (p z) 1 0) y (take j ys)

    by : (b : Bool) → p y ≡ b → slice_get (filter p ys) (count_by p (take j ys)) ≡ Some x
        → slice_get (filter p (y ∷ ys)) (count_by p (y ∷ take j ys)) ≡ Some x
    by true first rest =
        let one : as_number (p y) ≡ 1 = ap as_number first in
        let more : count_by p (y ∷ take j ys) ≡ suc (count_by p (take j ys)) = omega (arith, count, one) in
        rw (more, first) rest
    by false first rest =
        let none : as_number (p y) ≡ 0 = ap as_number first in
        let more : count_by p (y ∷ take j ys) ≡ count_by p (take j ys) = omega (arith, count, none) in
        rw (more, first) rest

-- past the front of a list stands what stands in the rest
past_front : {A : Type 0} (xs ys : List A) (n i : ℕ) → i ≡ length xs + n → slice_get (xs ++ ys) i ≡ slice_get ys n
past_front [] ys n i e = let same : i ≡ n = omega (arith, e) in ap (slice_get ys) same
past_front (x ∷ xs) ys n zero e = absurd (omega (arith, e))
past_front (x ∷ xs) ys n (suc i) e = past_front xs ys n i (omega (arith, e))

-- a field's slot holds values of its kind
pub slot_holds : (family : Family) (f : ClassFile) (m : Member) (c k : ℕ) → file_in family c ≡ Some f
    → slice_get f.fields k ≡ Some m → is_instance_field f m ≡ true
    → slice_get (slots_of family c) (slot_of family c k) ≡ Some (kind_of f m)
slot_holds family f m c k file at is =
    let before : List FieldKind = slots_before family c in
    let passed : ℕ = count_by (is_instance_field f) (take k f.fields) in
    let whole : slots_of family c ≡ before ++ own_kinds f =
    slots_whole family c ∙ ap (λ o. before ++ own_kinds_if o) file in
    let slot : slot_of family c k ≡ length before + passed =
    ap (λ o. slot_in (length before) o k) file ∙ ap (slot_after (length before) f k) at in
    ap (λ (xs : List FieldKind). slice_get xs (slot_of family c k)) whole
    ∙ past_front before (own_kinds f) passed (slot_of family c k) slot
    ∙ mapped_at (kind_of f) (filter (is_instance_field f) f.fields) passed m
    (kept_place (is_instance_field f) f.fields k m at is)

-- first stand the slots of the superclass
pub superclass_first : (family : Family) (c d : ℕ) → IsFamily family → AreParentsWithin family
    → superclass_in family c ≡ Some (super.Given d)
    → slots_of family c ≡ slots_of family d ++ own_kinds_if (file_in family c)
superclass_first family c d fits within e =
    slots_split family fits within c
    ∙ ap (λ s. slots_if family (given_class s) ++ (built_in_kinds s ++ own_kinds_if (file_in family c))) e
