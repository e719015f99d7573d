-- The tests on a pool decide what stands at an index.
use Rattle.std.proofs.Common.{◌≡◌, ℕ, ◌<◌, ◌⊎◌, Bool, true, false, ◌||◌, eqb, List, [], ◌∷◌, length, Option, Some, None}
use Rattle.std.proofs.Common.{slice_get, is_some}
use Rattle.std.proofs.Common.{refl, ap, inl, inr}
use Rattle.std.specs.Bool.{Decides}
use Rattle.std.specs.Prelude.{IsSomeAnd}
use Rattle.std.proofs.lemmas.Bool.{eqb-true, eq-eqb, ne_eqb, or_cases, or_right, not-true}
use Rattle.std.proofs.lemmas.Option.{slice_get_within}
use Rattle.classfile.specs.declared.constant.Constant.{Constant}
use Rattle.classfile.specs.declared.constant.Constant.TheVariants as constants
use Rattle.classfile.specs.Lookup.{utf8_in, utf8_of, class_name_in, class_name_of}
use Rattle.classfile.specs.reading.LookupTests.{has_utf8, passes, class_in, is_class, is_class_or_none}
use Rattle.classfile.specs.reading.LookupTests.{is_no_array, is_plain_class, descriptor_in, descriptor_of, member_in}
use Rattle.classfile.specs.reading.LookupTests.{is_member}
use Rattle.classfile.specs.Pool.{IsIndexOf, IsUtf8, IsUtf8Where, IsClass, IsClassNamed, IsNameAndType, IsMemberref}
use Rattle.classfile.specs.Class.{IsNoArray}
use Rattle.classfile.specs.FirstFault.{IsThisClass, IsSuperClass}

-- ---- what a test that passes says

-- a text of which a test holds
text_by : (test : List ℕ → Bool) (P : List ℕ → Type 0) → ((t : List ℕ) → test t ≡ true → P t) → (o : Option Constant)
    → passes test (utf8_in o) ≡ true → IsSomeAnd o (IsUtf8Where P)
text_by test P means None e = absurd cc
text_by test P means (Some (constants.Utf8 text)) e = means text e
text_by test P means (Some c) e = absurd cc

text_passes : (test : List ℕ → Bool) (P : List ℕ → Type 0) → ((t : List ℕ) → test t ≡ true → P t)
    → (pool : List Constant) (index : ℕ)
    → passes test (utf8_of pool index) ≡ true → IsIndexOf (IsUtf8Where P) pool index
unfolding utf8_of
text_passes test P means pool index e = text_by test P means (slice_get pool index) e

utf8_by : (o : Option Constant) → is_some (utf8_in o) ≡ true → IsSomeAnd o IsUtf8
utf8_by None e = absurd cc
utf8_by (Some (constants.Utf8 text)) e = tt
utf8_by (Some c) e = absurd cc

utf8_is : (pool : List Constant) (index : ℕ) → has_utf8 pool index ≡ true → IsIndexOf IsUtf8 pool index
unfolding has_utf8 utf8_of
utf8_is pool index e = utf8_by (slice_get pool index) e

class_by : (o : Option Constant) → class_in o ≡ true → IsSomeAnd o IsClass
class_by None e = absurd cc
class_by (Some (constants.Class name)) e = tt
class_by (Some c) e = absurd cc

class_is : (pool : List Constant) (index : ℕ) → is_class pool index ≡ true → IsIndexOf IsClass pool index
unfolding is_class
class_is pool index e = class_by (slice_get pool index) e

class_or_none_is : (pool : List Constant) (index : ℕ) → is_class_or_none pool index ≡ true → (index ≡ 0)
    ⊎ IsIndexOf IsClass pool index
unfolding is_class_or_none
class_or_none_is pool index e =
    elim (or_cases (eqb index 0) (is_class pool index) e) [
      | inl zero ↦ inl (eqb-true index 0 zero)
      | inr class ↦ inr (class_is pool index class)
    ]

no_array_is : (name : List ℕ) → is_no_array name ≡ true → IsNoArray name
no_array_is [] e rest h = cc
no_array_is (b ∷ bs) e rest h =
    let first : b ≡ 91 = cc in
    let no : eqb b 91 ≡ false = not-true (eqb b 91) e in
    let yes' : eqb b 91 ≡ true = rw first refl in
    cc

plain_by : (pool : List Constant) (o : Option Constant) → passes is_no_array (class_name_in pool o) ≡ true
    → IsSomeAnd o (IsClassNamed IsNoArray pool)
plain_by pool None e = absurd cc
plain_by pool (Some (constants.Class name)) e = text_passes is_no_array IsNoArray no_array_is pool name e
plain_by pool (Some c) e = absurd cc

plain_class_is : (pool : List Constant) (index : ℕ) → is_plain_class pool index ≡ true
    → IsIndexOf (IsClassNamed IsNoArray pool) pool index
unfolding is_plain_class class_name_of
plain_class_is pool index e = plain_by pool (slice_get pool index) e

member_by : (o : Option Constant) → member_in o ≡ true → IsSomeAnd o IsMemberref
member_by None e = absurd cc
member_by (Some (constants.Fieldref class name_and_type)) e = tt
member_by (Some (constants.Methodref class name_and_type)) e = tt
member_by (Some (constants.InterfaceMethodref class name_and_type)) e = tt
member_by (Some c) e = absurd cc

member_is : (pool : List Constant) (index : ℕ) → is_member pool index ≡ true → IsIndexOf IsMemberref pool index
unfolding is_member
member_is pool index e = member_by (slice_get pool index) e

name_and_type_by : (o : Option Constant) → is_some (descriptor_in o) ≡ true → IsSomeAnd o IsNameAndType
name_and_type_by None e = absurd cc
name_and_type_by (Some (constants.NameAndType name descriptor)) e = tt
name_and_type_by (Some c) e = absurd cc

name_and_type_is : (pool : List Constant) (index : ℕ) → is_some (descriptor_of pool index) ≡ true
    → IsIndexOf IsNameAndType pool index
unfolding descriptor_of
name_and_type_is pool index e = name_and_type_by (slice_get pool index) e

-- ---- what passes

text_by_rule : (test : List ℕ → Bool) (P : List ℕ → Type 0) → ((t : List ℕ) → P t → test t ≡ true)
    → (o : Option Constant)
    → IsSomeAnd o (IsUtf8Where P) → passes test (utf8_in o) ≡ true
text_by_rule test P means None h = absurd h
text_by_rule test P means (Some (constants.Utf8 text)) h = means text h
text_by_rule test P means (Some c) h = absurd h

pub text_decides : (test : List ℕ → Bool) (P : List ℕ → Type 0) → ((t : List ℕ) → Decides (test t) (P t))
    → (pool : List Constant) (index : ℕ)
    → Decides (passes test (utf8_of pool index)) (IsIndexOf (IsUtf8Where P) pool index)
unfolding utf8_of
text_decides test P means pool index =
    (text_passes test P (λ t. (means t).0) pool index, text_by_rule test P (λ t. (means t).1) (slice_get pool index))

utf8_by_rule : (o : Option Constant) → IsSomeAnd o IsUtf8 → is_some (utf8_in o) ≡ true
utf8_by_rule None h = absurd h
utf8_by_rule (Some (constants.Utf8 text)) h = refl
utf8_by_rule (Some c) h = absurd h

pub utf8_decides : (pool : List Constant) (index : ℕ) → Decides (has_utf8 pool index) (IsIndexOf IsUtf8 pool index)
unfolding has_utf8 utf8_of
utf8_decides pool index = (utf8_is pool index, utf8_by_rule (slice_get pool index))

class_by_rule : (o : Option Constant) → IsSomeAnd o IsClass → class_in o ≡ true
class_by_rule None h = absurd h
class_by_rule (Some (constants.Class name)) h = refl
class_by_rule (Some c) h = absurd h

pub class_decides : (pool : List Constant) (index : ℕ) → Decides (is_class pool index) (IsIndexOf IsClass pool index)
unfolding is_class
class_decides pool index = (class_is pool index, class_by_rule (slice_get pool index))

class_or_none_by_rule : (pool : List Constant) (index : ℕ) → IsSuperClass pool index
    → (eqb index 0 || is_class pool index) ≡ true
class_or_none_by_rule pool index (inl none) = rw (eq-eqb index 0 none) refl
class_or_none_by_rule pool index (inr class) =
    or_right (eqb index 0) (is_class pool index) ((class_decides pool index).1 class)

pub class_or_none_decides : (pool : List Constant) (index : ℕ)
    → Decides (is_class_or_none pool index) (IsSuperClass pool index)
unfolding is_class_or_none
class_or_none_decides pool index = (class_or_none_is pool index, class_or_none_by_rule pool index)

no_array_by_rule : (name : List ℕ) → IsNoArray name → is_no_array name ≡ true
no_array_by_rule [] h = refl
no_array_by_rule (b ∷ bs) h =
    let miss : eqb b 91 ≡ false = ne_eqb b 91 (λ e. h bs (ap (λ (z : ℕ). z ∷ bs) e)) in
    rw miss refl

plain_by_rule : (pool : List Constant) (o : Option Constant) → IsSomeAnd o (IsClassNamed IsNoArray pool)
    → passes is_no_array (class_name_in pool o) ≡ true
unfolding utf8_of
plain_by_rule pool None h = absurd h
plain_by_rule pool (Some (constants.Class name)) h =
    text_by_rule is_no_array IsNoArray no_array_by_rule (slice_get pool name) h
plain_by_rule pool (Some c) h = absurd h

pub plain_class_decides : (pool : List Constant) (index : ℕ)
    → Decides (is_plain_class pool index) (IsThisClass pool index)
unfolding is_plain_class class_name_of
plain_class_decides pool index = (plain_class_is pool index, plain_by_rule pool (slice_get pool index))

member_by_rule : (o : Option Constant) → IsSomeAnd o IsMemberref → member_in o ≡ true
member_by_rule None h = absurd h
member_by_rule (Some (constants.Fieldref class name_and_type)) h = refl
member_by_rule (Some (constants.Methodref class name_and_type)) h = refl
member_by_rule (Some (constants.InterfaceMethodref class name_and_type)) h = refl
member_by_rule (Some c) h = absurd h

pub member_decides : (pool : List Constant) (index : ℕ)
    → Decides (is_member pool index) (IsIndexOf IsMemberref pool index)
unfolding is_member
member_decides pool index = (member_is pool index, member_by_rule (slice_get pool index))

name_and_type_by_rule : (o : Option Constant) → IsSomeAnd o IsNameAndType → is_some (descriptor_in o) ≡ true
name_and_type_by_rule None h = absurd h
name_and_type_by_rule (Some (constants.NameAndType name descriptor)) h = refl
name_and_type_by_rule (Some c) h = absurd h

pub name_and_type_decides : (pool : List Constant) (index : ℕ)
    → Decides (is_some (descriptor_of pool index)) (IsIndexOf IsNameAndType pool index)
unfolding descriptor_of
name_and_type_decides pool index = (name_and_type_is pool index, name_and_type_by_rule (slice_get pool index))

-- ---- an index of something is below the count

some_is : {X : Type 0} (P : X → Type 0) (o : Option X) → IsSomeAnd o P → (x : X) × (o ≡ Some x)
some_is P None h = absurd h
some_is P (Some x) h = (x, refl)

pub within : (P : Constant → Type 0) (pool : List Constant) (index : ℕ) → IsIndexOf P pool index → index < length pool
within P pool index h = let s = some_is P (slice_get pool index) h in slice_get_within pool index s.0 s.1
