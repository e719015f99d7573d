-- The slots of fields, field by field and class by class.
use Rattle.std.proofs.Common.{◌≡◌, ℕ, zero, suc, ◌+◌, ◌<◌, ◌≤◌, Bool, true, List, [], ◌∷◌, ◌++◌, length, take}
use Rattle.std.proofs.Common.{drop, Option, Some, None}
use Rattle.std.proofs.Common.{slice_get, get_or, refl, sym, ap, ◌∙◌, inl, inr, arith}
use Rattle.std.specs.List.{count_by, filter}
use Rattle.std.specs.Prelude.{slice_index_or}
use Rattle.std.proofs.lemmas.Bool.{cases_eq, cases_lt}
use Rattle.std.proofs.lemmas.List.{get_or_past, get_or_append_left, length-append, length-map, take-append-drop}
use Rattle.std.proofs.lemmas.List.Elements.{filter-append}
use Rattle.std.proofs.lemmas.List.Sums.{count_by-le-length, count_by_more_yes, length-filter}
use Rattle.std.proofs.lemmas.Option.{get_or_from_slice_get, slice_get_past, slice_get_within}
use Rattle.classfile.specs.ClassFile.{ClassFile}
use Rattle.classfile.specs.declared.member.Member.{Member}
use Rattle.loading.specs.Families.{Family, file_in, file_of}
use Rattle.loading.proofs.PlaceLemmas.{last_at}
use Rattle.program.specs.InstanceFields.{is_instance_field, kind_of, own_kinds}
use Rattle.program.specs.InstanceFields.{slots_before, slot_after, slot_in, slot_of}
use Rattle.program.specs.steps.Slots.{AreFieldSlots, field_slot_in, AreFieldSlotsOf}

none_past : {A : Type 0} (xs : List A) (i : ℕ) → slice_get xs i ≡ None → length xs ≤ i
none_past [] i none = omega arith
none_past (x ∷ xs) zero none = absurd cc
none_past (x ∷ xs) (suc i) none = omega (arith, none_past xs i none)

-- ---- how many there are

pub own_few : (f : ClassFile) → length (own_kinds f) ≤ length f.fields
own_few f =
    omega (
      arith,
      length-map (filter (is_instance_field f) f.fields) (kind_of f),
      length-filter (is_instance_field f) f.fields,
      count_by-le-length (is_instance_field f) f.fields,
    )

count_take : {X : Type 0} (p : X → Bool) (xs : List X) (i : ℕ) → count_by p (take i xs) ≤ count_by p xs
count_take p xs i =
    let whole : count_by p xs ≡ length (filter p (take i xs)) + length (filter p (drop i xs)) =
    sym (length-filter p xs) ∙ ap (λ ys. length (filter p ys)) (sym (take-append-drop i xs))
    ∙ ap length (filter-append p (take i xs) (drop i xs))
    ∙ length-append (filter p (take i xs)) (filter p (drop i xs)) in
    omega (arith, whole, length-filter p (take i xs))

-- a field that has a slot is one of them
pub room_for : (f : ClassFile) (i : ℕ) (m : Member) → i < length f.fields
    → is_instance_field f (get_or f.fields i m) ≡ true
    → count_by (is_instance_field f) (take i f.fields) < length (own_kinds f)
room_for f i m small is =
    omega (
      arith,
      length-map (filter (is_instance_field f) f.fields) (kind_of f),
      length-filter (is_instance_field f) f.fields,
      count_take (is_instance_field f) f.fields (i + 1),
      count_by_more_yes (is_instance_field f) f.fields i m small is,
    )

-- ---- one class

-- how many slots stand before a field
abbrev pub passed : ClassFile → ℕ → ℕ → ℕ
passed f first k = first + count_by (is_instance_field f) (take k f.fields)

pub field_slots_all : (f : ClassFile) (first : ℕ) (slots : List ℕ) → length slots ≡ length f.fields
    → ((k : ℕ) → k < length f.fields → slice_get slots k ≡ Some (passed f first k)) → AreFieldSlots first f slots
field_slots_all f first slots count are k = by (slice_get f.fields k) refl
  where
    by : (o : Option Member) → slice_get f.fields k ≡ o → slice_index_or slots k 0 ≡ slot_after first f k o
    by None at = get_or_past slots k 0 (omega (arith, count, none_past f.fields k at))
    by (Some m) at =
        get_or_from_slice_get slots k (passed f first k) 0 (are k (slice_get_within f.fields k m at))

-- ---- all classes

pub class_slots_next : (family : Family) (rows new : List (List ℕ)) (i : ℕ) (row : List ℕ) (f : ClassFile)
    → length rows ≡ i → file_in family i ≡ Some f → AreFieldSlots (length (slots_before family i)) f row
    → ((c : ℕ) → c < i → (k : ℕ) → field_slot_in rows c k ≡ slot_of family c k)
    → new ≡ rows ++ row ∷ [] → (c : ℕ) → c < i + 1 → (k : ℕ) → field_slot_in new c k ≡ slot_of family c k
class_slots_next family rows new i row f count file are was e c small k = elim (cases_eq c i) [
  | inl last ↦ (let at : slice_index_or new c [] ≡ row =
      ap (λ (xs : List (List ℕ)). slice_index_or xs c []) e
      ∙ ap (λ n. slice_index_or (rows ++ row ∷ []) n []) (last ∙ sym count)
      ∙ get_or_from_slice_get (rows ++ row ∷ []) (length rows) row [] (last_at rows row) in
      ap (λ (xs : List ℕ). slice_index_or xs k 0) at ∙ are k
      ∙ sym (ap (λ o. slot_in (length (slots_before family i)) o k) file)
      ∙ ap (λ n. slot_of family n k) (sym last))
  | inr other ↦ (let at : slice_index_or new c [] ≡ slice_index_or rows c [] =
      ap (λ (xs : List (List ℕ)). slice_index_or xs c []) e
      ∙ get_or_append_left rows (row ∷ []) [] c (omega (arith, count)) in
      ap (λ (xs : List ℕ). slice_index_or xs k 0) at ∙ was c (omega arith) k)
]

pub class_slots_all : (family : Family) (rows : List (List ℕ)) → length rows ≡ length family
    → ((c : ℕ) → c < length family → (k : ℕ) → field_slot_in rows c k ≡ slot_of family c k)
    → AreFieldSlotsOf family rows
class_slots_all family rows count are c k = elim (cases_lt c (length family)) [
  | inl small ↦ are c small k
  | inr past ↦ (let none = slice_get_past family c past in
      ap (λ (xs : List ℕ). slice_index_or xs k 0) (get_or_past rows c [] (omega (arith, count, past)))
      ∙ sym (ap (λ o. slot_in (length (slots_before family c)) (file_of o) k) none))
]
