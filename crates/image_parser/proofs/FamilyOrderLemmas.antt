-- A family whose files came in the order of their names has them in that order.
use Rattle.std.proofs.Common.{◌≡◌, ℕ, zero, suc, ◌<◌, ◌^◌, List, [], ◌∷◌, ◌++◌, length, map, get_or, Option, Some}
use Rattle.std.proofs.Common.{None, slice_get}
use Rattle.std.proofs.Common.{refl, sym, ap, subst, ◌∙◌, arith}
use Rattle.std.specs.List.{All, Contains, flat_map}
use Rattle.std.proofs.lemmas.List.Elements.{All-nil, All-cons, All-head, All-tail}
use Rattle.std.proofs.lemmas.Option.{slice_get_within, slice_get-get_or, same_Some}
use Rattle.classfile.specs.ClassFile.{ClassFile}
use Rattle.classfile.specs.Text.{class_text}
use Rattle.loading.specs.declared.given.GivenClass.{GivenClass}
use Rattle.loading.specs.Families.{Family, IsFamily, IsFamilyOf, name_in}
use Rattle.loading.specs.Names.{name_of, Precedes}
use Rattle.loading.specs.steps.Linking.{Ascend}
use Rattle.loading.proofs.NamesLemmas.{precedes_not_back, precedes_not_same, precedes_along}
use Rattle.image_format.specs.Texts.{file_text, given_text}
use Rattle.image_parser.specs.FileFaults.{Ascending}

-- ---- names that go up along a list

abbrev Sorted : List ClassFile → Type 0
Sorted xs = (i j : ℕ) (a b : ClassFile) → i < j → slice_get xs i ≡ Some a → slice_get xs j ≡ Some b
    → Precedes (name_of a) (name_of b)

abbrev Member : List ClassFile → ClassFile → Type 0
Member xs x = (i : ℕ) × (slice_get xs i ≡ Some x)

above : (before : List ℕ) (xs : List ClassFile) → Ascending (Some before) xs → (i : ℕ) (x : ClassFile)
    → slice_get xs i ≡ Some x → Precedes before (name_of x)
above before [] h i x e = absurd cc
above before (y ∷ xs) h zero x e =
    let same : y ≡ x = cc in
    let P : ClassFile → Type 0 = λ z. Precedes before (name_of z) in subst P same h.0
above before (y ∷ xs) h (suc i) x e =
    precedes_along before (name_of y) (name_of x) h.0 (above (name_of y) xs h.1 i x e)

sorted_after : (before : Option (List ℕ)) (xs : List ClassFile) → Ascending before xs → Sorted xs
sorted_after before [] h i j a b lt e f = absurd cc
sorted_after before (x ∷ xs) h zero zero a b lt e f = absurd (omega (arith, lt))
sorted_after before (x ∷ xs) h (suc i) zero a b lt e f = absurd (omega (arith, lt))
sorted_after before (x ∷ xs) h zero (suc j) a b lt e f =
    let same : x ≡ a = cc in
    let P : ClassFile → Type 0 = λ z. Precedes (name_of z) (name_of b) in
    subst P same (above (name_of x) xs h.1 j b f)
sorted_after before (x ∷ xs) h (suc i) (suc j) a b lt e f =
    sorted_after (Some (name_of x)) xs h.1 i j a b (omega (arith, lt)) e f

pub files_ascend : (xs : List ClassFile) → Ascending None xs → Ascend xs
files_ascend xs h = record { order = sorted_after None xs h }

abbrev files_in : Family → List ClassFile
files_in family = map (λ (c : GivenClass). c.file) family

named_at : (family : Family) (i : ℕ) (a : ClassFile) → slice_get (files_in family) i ≡ Some a
    → name_in family i ≡ Some (name_of a)
named_at [] i a e = absurd cc
named_at (c ∷ family) zero a e = let same : c.file ≡ a = cc in ap (λ (z : ClassFile). Some (name_of z)) same
named_at (c ∷ family) (suc i) a e = named_at family i a e

family_sorted : (family : Family) → IsFamily family → Sorted (files_in family)
family_sorted family fits i j a b lt e f =
    fits.ascending i j (name_of a) (name_of b) lt (named_at family i a e) (named_at family j b f)

-- ---- one order

tail_sorted : (x : ClassFile) (xs : List ClassFile) → Sorted (x ∷ xs) → Sorted xs
tail_sorted x xs h i j a b lt e f = h (suc i) (suc j) a b (omega (arith, lt)) e f

abbrev some_file : ClassFile → Option ClassFile
some_file x = Some x

same_heads : (x y : ClassFile) (xs ys : List ClassFile) → Sorted (x ∷ xs) → Sorted (y ∷ ys)
    → (i j : ℕ) → slice_get (y ∷ ys) i ≡ Some x → slice_get (x ∷ xs) j ≡ Some y → x ≡ y
same_heads x y xs ys s t zero j e f = let same : y ≡ x = cc in sym same
same_heads x y xs ys s t (suc i) zero e f = let same : x ≡ y = cc in same
same_heads x y xs ys s t (suc i) (suc j) e f =
    absurd (precedes_not_back (name_of y) (name_of x) (t zero (suc i) y x (omega arith) refl e)
    (s zero (suc j) x y (omega arith) refl f))

in_tail : (x y : ClassFile) (xs ys : List ClassFile) → Sorted (x ∷ xs) → x ≡ y
    → ((z : ClassFile) → Member (x ∷ xs) z → Member (y ∷ ys) z) → (z : ClassFile) (i : ℕ) → slice_get xs i ≡ Some z
    → (k : ℕ) → slice_get (y ∷ ys) k ≡ Some z → Member ys z
in_tail x y xs ys s same h z i e zero f =
    let head : y ≡ z = cc in
    absurd (precedes_not_same (name_of x) (name_of z) (s zero (suc i) x z (omega arith) refl e) (ap name_of (same
    ∙ head)))
in_tail x y xs ys s same h z i e (suc k) f = (k, f)

one_order : (xs ys : List ClassFile) → Sorted xs → Sorted ys → ((z : ClassFile) → Member xs z → Member ys z)
    → ((z : ClassFile) → Member ys z → Member xs z) → xs ≡ ys
one_order [] [] s t h k = refl
one_order [] (y ∷ ys) s t h k = let m = k y (zero, refl) in let e = m.1 in absurd cc
one_order (x ∷ xs) [] s t h k = let m = h x (zero, refl) in let e = m.1 in absurd cc
one_order (x ∷ xs) (y ∷ ys) s t h k =
    let m = h x (zero, refl) in
    let n = k y (zero, refl) in
    let same = same_heads x y xs ys s t m.0 n.0 m.1 n.1 in
    let rest = one_order xs ys (tail_sorted x xs s) (tail_sorted y ys t)
    (λ z a. let b = h z (suc a.0, a.1) in in_tail x y xs ys s same h z a.0 a.1 b.0 b.1)
    (λ z a. let b = k z (suc a.0, a.1) in in_tail y x ys xs t (sym same) k z a.0 a.1 b.0 b.1) in
    ap (λ (z : ClassFile). z ∷ xs) same ∙ ap (λ (zs : List ClassFile). y ∷ zs) rest

member_of : (xs : List ClassFile) (x : ClassFile) → Contains xs x → Member xs x
member_of xs x c = (c.0, slice_get-get_or xs c.0 x c.1 ∙ ap some_file c.2)

contains_it : (xs : List ClassFile) (x : ClassFile) → Member xs x → Contains xs x
contains_it xs x m =
    let lt = slice_get_within xs m.0 x m.1 in
    (m.0, lt, same_Some (get_or xs m.0 x) x (sym (slice_get-get_or xs m.0 x lt) ∙ m.1))

pub same_files : (files : List ClassFile) (family : Family) → Ascending None files → IsFamilyOf files family
    → files ≡ files_in family
same_files files family up of =
    one_order files (files_in family) (sorted_after None files up) (family_sorted family of.fits)
    (λ z m. member_of (files_in family) z ((of.members z).0 (contains_it files z m)))
    (λ z m. member_of files z ((of.members z).1 (contains_it (files_in family) z m)))

-- ---- texts of the files of a family

pub family_text : (family : Family) → flat_map file_text (files_in family) ≡ flat_map given_text family
family_text [] = refl
family_text (c ∷ family) = ap (λ (z : List ℕ). given_text c ++ z) (family_text family)

abbrev pub IsShort : ClassFile → Type 0
IsShort file = length (class_text file) < 2 ^ 32

-- what holds of each file holds of each class's
pub family_each : (P : ClassFile → Type 0) (family : Family) → All P (files_in family)
    → All (λ (c : GivenClass). P c.file) family
family_each P [] h = All-nil (λ (c : GivenClass). P c.file)
family_each P (c ∷ family) h =
    All-cons (λ (g : GivenClass). P g.file) c family (All-head P c.file (files_in family) h)
    (family_each P family (All-tail P c.file (files_in family) h))

-- ---- files of a family go up

up_from : (x : ClassFile) (xs : List ClassFile) → Sorted (x ∷ xs) → Ascending (Some (name_of x)) xs
up_from x [] h = tt
up_from x (y ∷ ys) h = (h zero (suc zero) x y (omega arith) refl refl, up_from y ys (tail_sorted x (y ∷ ys) h))

sorted_up : (xs : List ClassFile) → Sorted xs → Ascending None xs
sorted_up [] h = tt
sorted_up (x ∷ xs) h = (tt, up_from x xs h)

pub family_ascending : (family : Family) → IsFamily family → Ascending None (files_in family)
family_ascending family fits = sorted_up (files_in family) (family_sorted family fits)
