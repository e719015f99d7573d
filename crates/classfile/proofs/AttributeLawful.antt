-- The readers of attributes are lawful.
use Rattle.std.proofs.Common.{◌≡◌, ◌≢◌, ℕ, zero, suc, ◌<◌, ◌^◌, Bool, true, false, ◌&&◌, ◌||◌, cond, eqb, List, [], ◌∷◌}
use Rattle.std.proofs.Common.{◌++◌, length}
use Rattle.std.proofs.Common.{get_or, Option, Some, None, slice_get, Result, Ok, Err, refl, sym, ap, subst, ◌∙◌, arith}
use Rattle.std.proofs.Common.{inl, inr}
use Rattle.std.specs.Bool.{Decides}
use Rattle.std.specs.Prelude.{IsSomeAnd}
use Rattle.std.specs.Int.{w16, from_be_bytes}
use Rattle.std.specs.List.{All, Contains, list_any}
use Rattle.std.specs.Str.{bytes_eq}
use Rattle.std.proofs.lemmas.Bool.{eqb-true, and_parts, or_cases, or_parts, cases_Bool}
use Rattle.std.proofs.lemmas.List.Folds.{list_any_at, list_any_none}
use Rattle.std.proofs.lemmas.Slice.Eq.{bytes_eq-Decides}
use Rattle.classfile.specs.declared.fault.ClassFault.{ClassFault}
use Rattle.classfile.specs.declared.fault.ClassFault.TheVariants as faults
use Rattle.classfile.specs.declared.constant.Constant.{Constant}
use Rattle.classfile.specs.declared.constant.Constant.TheVariants as constants
use Rattle.classfile.specs.declared.unread.UnreadAttribute.{UnreadAttribute}
use Rattle.classfile.specs.declared.code.Code.{Code}
use Rattle.classfile.specs.declared.attribute.Attribute.{Attribute}
use Rattle.classfile.specs.declared.attribute.Attribute.TheVariants as attributes
use Rattle.classfile.specs.declared.attribute.Owner.{Owner}
use Rattle.classfile.specs.declared.attribute.Owner.TheVariants as owners
use Rattle.classfile.specs.declared.attribute.Meaning.{Meaning}
use Rattle.classfile.specs.declared.attribute.Meaning.TheVariants as meanings
use Rattle.classfile.specs.reading.Numbers.{◌>>=◌}
use Rattle.classfile.specs.Gives.{offset}
use Rattle.classfile.specs.Faults.{IsBytes}
use Rattle.classfile.specs.Lookup.{utf8_in, utf8_of}
use Rattle.classfile.specs.Flags.{has_flag, has_no_body}
use Rattle.classfile.specs.Names.{constant_value_name, code_name, string_descriptor}
use Rattle.classfile.specs.Pool.{IsIndexOf, IsUtf8, IsUtf8Where}
use Rattle.classfile.specs.Members.{IsUnread, IsCode, IsValueOf, is_constant_value, is_code}
use Rattle.classfile.specs.reading.Code.{framed_at, unread_of, whole_code}
use Rattle.classfile.specs.reading.Members.{meaning_at, is_int_descriptor, suits, suits_at, value_of, suiting_value}
use Rattle.classfile.specs.reading.Members.{constant_value_of, inside}
use Rattle.classfile.specs.reading.Members.{code_attribute_of, content_of, attribute_at, attributes_at}
use Rattle.classfile.specs.Spelling.{u2, u4}
use Rattle.classfile.specs.Text.{framed_text, unread_text, code_text, attribute_text}
use Rattle.classfile.specs.FirstFault.{IsAttributeOf, IsAttributeText, IsFrame, IsContent, AttributeFails, IsAttributes}
use Rattle.classfile.specs.FirstFault.{AttributesFail}
use Rattle.classfile.specs.FirstFault.{NotBoth}
use Rattle.classfile.proofs.Lawful.{Lawful, IsBytes-back, wide16, bind_ok}
use Rattle.classfile.proofs.RuleLawful.{Makes, good_ok, bad_ok, made_lawful}
use Rattle.classfile.proofs.TableLawful.{table_lawful}
use Rattle.classfile.proofs.LookupTestsLemmas.{text_decides, within}
use Rattle.classfile.proofs.CodeLawful.{frame_lawful, unread_is, frame_of_unread, whole_code_is, whole_code_again}
use Rattle.classfile.proofs.MemoryLemmas.{whole_code_never}
use Rattle.classfile.proofs.BoolLemmas.{and_false_second, and_false_where}

-- ---- texts at indices

known_by : (P : List ℕ → Type 0) (t : List ℕ) → P t → (o : Option Constant) → utf8_in o ≡ Some t
    → IsSomeAnd o (IsUtf8Where P)
known_by P t p None e = absurd cc
known_by P t p (Some (constants.Utf8 text)) e = let q : t ≡ text = cc in subst P q p
known_by P t p (Some c) e = absurd cc

-- the text at an index is known
known_text : (P : List ℕ → Type 0) (pool : List Constant) (index : ℕ) (t : List ℕ) → utf8_of pool index ≡ Some t → P t
    → IsIndexOf (IsUtf8Where P) pool index
unfolding utf8_of
known_text P pool index t e p = known_by P t p (slice_get pool index) e

-- the text that stands at an index
pub record TextAt (P : List ℕ → Type 0) (o : Option (List ℕ)) : Type 0 where
  pub text : List ℕ
  pub is : o ≡ Some text
  pub holds : P text

text_by : (P : List ℕ → Type 0) (o : Option Constant) → IsSomeAnd o (IsUtf8Where P) → TextAt P (utf8_in o)
text_by P None h = absurd h
text_by P (Some (constants.Utf8 t)) h = record { text = t; is = refl; holds = h }
text_by P (Some c) h = absurd h

text_at : (P : List ℕ → Type 0) (pool : List Constant) (index : ℕ) → IsIndexOf (IsUtf8Where P) pool index
    → TextAt P (utf8_of pool index)
unfolding utf8_of
text_at P pool index h = text_by P (slice_get pool index) h

any_text : (o : Option Constant) → IsSomeAnd o IsUtf8 → TextAt (λ t. Unit {0}) (utf8_in o)
any_text None h = absurd h
any_text (Some (constants.Utf8 t)) h = record { text = t; is = refl; holds = tt }
any_text (Some c) h = absurd h

utf8_at : (pool : List Constant) (index : ℕ) → IsIndexOf IsUtf8 pool index → TextAt (λ t. Unit {0}) (utf8_of pool index)
unfolding utf8_of
utf8_at pool index h = any_text (slice_get pool index) h

named_by : (P : List ℕ → Type 0) (o : Option Constant) → IsSomeAnd o (IsUtf8Where P) → IsSomeAnd o IsUtf8
named_by P None h = absurd h
named_by P (Some (constants.Utf8 t)) h = tt
named_by P (Some c) h = absurd h

-- a text of some form is a text
pub utf8_where_is_utf8 : (P : List ℕ → Type 0) (pool : List Constant) (index : ℕ) → IsIndexOf (IsUtf8Where P) pool index
    → IsIndexOf IsUtf8 pool index
utf8_where_is_utf8 P pool index h = named_by P (slice_get pool index) h

equal_bytes : (a b : List ℕ) → bytes_eq a b ≡ true → a ≡ b
equal_bytes a b e = (bytes_eq-Decides a b).0 e

other_bytes : (a b : List ℕ) → bytes_eq a b ≡ false → a ≢ b
other_bytes a b e same = let hit : bytes_eq a b ≡ true = (bytes_eq-Decides a b).1 same in cc

unequal_bytes : (a b : List ℕ) → a ≢ b → bytes_eq a b ≡ false
unequal_bytes a b other =
    elim (cases_Bool (bytes_eq a b)) [ inl hit ↦ absurd (other (equal_bytes a b hit)) | inr miss ↦ miss ]

-- ---- at most one

pub none_passes : {X : Type 0} (p : X → Bool) (items : List X) → list_any p items ≡ false → (k : ℕ) (d : X)
    → k < length items
    → p (get_or items k d) ≡ false
none_passes p items e k d lt =
    elim (cases_Bool (p (get_or items k d))) [
      | inl hit ↦ let any = list_any_at p items k d lt hit in absurd cc
      | inr miss ↦ miss
    ]

-- none of the earlier ones is of the kind of which there is one
single_if : (test : Attribute → Bool) (earlier : List Attribute) (x : Attribute) → list_any test earlier ≡ false
    → All (λ e. test e ≡ true → test x ≡ false) earlier
single_if test earlier x none = λ k d lt hit. let miss = none_passes test earlier none k d lt in absurd cc

none_if : (test : Attribute → Bool) (earlier : List Attribute) → All (λ e. test e ≡ true → true ≡ false) earlier
    → list_any test earlier ≡ false
none_if test earlier single =
    list_any_none test earlier (λ k d lt. elim (cases_Bool (test (get_or earlier k d))) [
      | inl hit ↦ let absurdly = single k d lt hit in
          absurd cc
      | inr miss ↦ miss
    ])

-- ---- ConstantValue

int_descriptor_is : (t : List ℕ) → is_int_descriptor t ≡ true
    → (letter : ℕ) × (Contains (73 ∷ 83 ∷ 67 ∷ 66 ∷ 90 ∷ []) letter × (t ≡ letter ∷ []))
int_descriptor_is [] e = absurd cc
int_descriptor_is (b ∷ c ∷ t) e = absurd cc
int_descriptor_is (b ∷ []) e =
    elim (or_cases (eqb b 73 || eqb b 83 || eqb b 67 || eqb b 66) (eqb b 90) e) [
      | inr at4 ↦ (b, ((4, omega arith, sym (eqb-true b 90 at4)), refl))
      | inl four ↦ elim (or_cases (eqb b 73 || eqb b 83 || eqb b 67) (eqb b 66) four) [
        | inr at3 ↦ (b, ((3, omega arith, sym (eqb-true b 66 at3)), refl))
        | inl three ↦ elim (or_cases (eqb b 73 || eqb b 83) (eqb b 67) three) [
          | inr at2 ↦ (b, ((2, omega arith, sym (eqb-true b 67 at2)), refl))
          | inl two ↦ elim (or_cases (eqb b 73) (eqb b 83) two) [
            | inr at1 ↦ (b, ((1, omega arith, sym (eqb-true b 83 at1)), refl))
            | inl at0 ↦ (b, ((0, omega arith, sym (eqb-true b 73 at0)), refl))
          ]
        ]
      ]
    ]

int_letter : (b : ℕ) → Contains (73 ∷ 83 ∷ 67 ∷ 66 ∷ 90 ∷ []) b → is_int_descriptor (b ∷ []) ≡ true
int_letter b (zero, lt, e) = let P : ℕ → Type 0 = λ z. is_int_descriptor (z ∷ []) ≡ true in subst P e refl
int_letter b (suc zero, lt, e) = let P : ℕ → Type 0 = λ z. is_int_descriptor (z ∷ []) ≡ true in subst P e refl
int_letter b (suc (suc zero), lt, e) = let P : ℕ → Type 0 = λ z. is_int_descriptor (z ∷ []) ≡ true in subst P e refl
int_letter b (suc (suc (suc zero)), lt, e) = let P : ℕ → Type 0 = λ z. is_int_descriptor (z ∷ []) ≡ true in
    subst P e refl
int_letter b (suc (suc (suc (suc zero))), lt, e) = let P : ℕ → Type 0 = λ z. is_int_descriptor (z ∷ []) ≡ true in
    subst P e refl
int_letter b (suc (suc (suc (suc (suc k)))), lt, e) = absurd (omega (arith, lt))

suits_decides : (o : Option Constant) (t : List ℕ) → Decides (suits t o) (IsSomeAnd o (IsValueOf t))
suits_decides None t = (λ e. absurd cc, λ h. absurd h)
suits_decides (Some (constants.Integer bits)) t = (int_descriptor_is t, λ h. rw h.1.1 (int_letter h.0 h.1.0))
suits_decides (Some (constants.Long high low)) t = bytes_eq-Decides t (74 ∷ [])
suits_decides (Some (constants.Float bits)) t = bytes_eq-Decides t (70 ∷ [])
suits_decides (Some (constants.Double high low)) t = bytes_eq-Decides t (68 ∷ [])
suits_decides (Some (constants.String text)) t = bytes_eq-Decides t string_descriptor
suits_decides (Some c) t = (λ e. absurd cc, λ h. absurd h)

abbrev Suits : List Constant → ℕ → ℕ → Type 0
Suits pool descriptor value = IsIndexOf (IsUtf8Where (λ text. IsIndexOf (IsValueOf text) pool value)) pool descriptor

suits_at_decides : (pool : List Constant) (descriptor value : ℕ)
    → Decides (suits_at pool descriptor value) (Suits pool descriptor value)
unfolding suits_at
suits_at_decides pool descriptor value =
    text_decides (λ text. suits text (slice_get pool value)) (λ text. IsIndexOf (IsValueOf text) pool value)
    (suits_decides (slice_get pool value)) pool descriptor

value_below : (pool : List Constant) (descriptor value : ℕ) → length pool < 2 ^ 16 → Suits pool descriptor value
    → value < 2 ^ 16
value_below pool descriptor value small h =
    let t = text_at (λ text. IsIndexOf (IsValueOf text) pool value) pool descriptor h in
    let lt = within (IsValueOf t.text) pool value t.holds in omega (arith, lt, small)

-- what a ConstantValue says
record IsValue (pool : List Constant) (descriptor name : ℕ) (content : List ℕ) (earlier : List Attribute)
    (attribute : Attribute) : Type 0
  where
    value : ℕ
    is : attribute ≡ attributes.ConstantValue name value
    suits : Suits pool descriptor value
    spelled : content ≡ u2 value
    first : list_any is_constant_value earlier ≡ false

suiting_is : (pool : List Constant) (at descriptor name : ℕ) (earlier : List Attribute) (content : List ℕ)
    (attribute : Attribute)
    → IsBytes content → list_any is_constant_value earlier ≡ false
    → suiting_value pool at descriptor name (value_of content) ≡ Ok attribute
    → IsValue pool descriptor name content earlier attribute
suiting_is pool at descriptor name earlier [] attribute fits none e = absurd cc
suiting_is pool at descriptor name earlier (a ∷ []) attribute fits none e = absurd cc
suiting_is pool at descriptor name earlier (a ∷ b ∷ c ∷ rest) attribute fits none e = absurd cc
suiting_is pool at descriptor name earlier (a ∷ b ∷ []) attribute fits none e =
    let n = from_be_bytes w16 (a ∷ b ∷ []) in
    let g = good_ok (suits_at pool descriptor n) (faults.Attribute at) (attributes.ConstantValue name n) attribute e in
    record {
      value = n;
      is = sym g.1;
      suits = (suits_at_decides pool descriptor n).0 g.0;
      spelled =
          sym (wide16.back (a ∷ b ∷ []) refl fits);
      first = none;
    }

value_is : (pool : List Constant) (at descriptor name : ℕ) (earlier : List Attribute) (content : List ℕ)
    (attribute : Attribute)
    → IsBytes content
    → content_of pool at (meanings.ConstantValue descriptor) earlier name content ≡ Ok attribute
    → IsValue pool descriptor name content earlier attribute
unfolding content_of constant_value_of
value_is pool at descriptor name earlier content attribute fits e =
    let b = bad_ok (list_any is_constant_value earlier) (faults.Attribute at)
    (suiting_value pool at descriptor name (value_of content))
    attribute e in
    suiting_is pool at descriptor name earlier content attribute fits b.0 b.1

value_again : (pool : List Constant) (at descriptor name value : ℕ) (earlier : List Attribute) → length pool < 2 ^ 16
    → Suits pool descriptor value → list_any is_constant_value earlier ≡ false
    → content_of pool at (meanings.ConstantValue descriptor) earlier name (u2 value)
    ≡ Ok (attributes.ConstantValue name value)
unfolding content_of constant_value_of
value_again pool at descriptor name value earlier small h none =
    let again : from_be_bytes w16 (u2 value) ≡ value = wide16.again value (value_below pool descriptor value small h) in
    let passes : suits_at pool descriptor value ≡ true = (suits_at_decides pool descriptor value).1 h in
    let made : suiting_value pool at descriptor name (Some value) ≡ Ok (attributes.ConstantValue name value) =
    rw passes refl in
    let read : suiting_value pool at descriptor name (value_of (u2 value)) ≡ Ok (attributes.ConstantValue name value) =
    ap (λ (n : ℕ). suiting_value pool at descriptor name (Some n)) again ∙ made in
    ap (λ (bad : Bool). cond bad (Err (faults.Attribute at))
    (suiting_value pool at descriptor name (value_of (u2 value)))) none ∙ read

-- ---- Code

inside_ok : {X : Type 0} (at : ℕ) (r : Result X ClassFault) (x : X) → inside at r ≡ Ok x → r ≡ Ok x
inside_ok at (Ok y) x e = e
inside_ok at (Err d) x e = absurd cc

record IsCodeAttribute (pool : List Constant) (flags : ℕ) (name : ℕ) (content : List ℕ) (earlier : List Attribute)
    (attribute : Attribute) : Type 0 where
  code : Code
  is : attribute ≡ attributes.Code name code
  allowed : has_no_body flags ≡ false
  fits : IsCode pool code
  spelled : content ≡ code_text code
  first : list_any is_code earlier ≡ false

code_is : (pool : List Constant) (at : ℕ) (flags : ℕ) (name : ℕ) (earlier : List Attribute) (content : List ℕ)
    (attribute : Attribute)
    → length pool < 2 ^ 16 → IsBytes content → length content < 2 ^ 32
    → content_of pool at (meanings.Code flags) earlier name content ≡ Ok attribute
    → IsCodeAttribute pool flags name content earlier attribute
unfolding content_of code_attribute_of
code_is pool at flags name earlier content attribute small fits short e =
    let make : Code → Result Attribute ClassFault = λ code. Ok (attributes.Code name code) in
    let b = bad_ok (has_no_body flags || list_any is_code earlier) (faults.Attribute at)
    (inside at (whole_code pool content) >>= make) attribute e in
    let n = or_parts (has_no_body flags) (list_any is_code earlier) b.0 in
    let m = bind_ok (inside at (whole_code pool content)) make attribute b.1 in
    let c = whole_code_is pool content m.0 small fits short (inside_ok at (whole_code pool content) m.0 m.1) in
    record {
      code = m.0;
      is = (let q : attributes.Code name m.0 ≡ attribute = cc in sym q);
      allowed = n.0;
      fits = c.0;
      spelled = c.1;
      first = n.1;
    }

code_again : (pool : List Constant) (at : ℕ) (flags : ℕ) (name : ℕ) (earlier : List Attribute) (code : Code)
    → length pool < 2 ^ 16
    → has_no_body flags ≡ false → IsCode pool code → list_any is_code earlier ≡ false
    → content_of pool at (meanings.Code flags) earlier name (code_text code) ≡ Ok (attributes.Code name code)
unfolding content_of code_attribute_of
code_again pool at flags name earlier code small allowed fits none =
    let make : Code → Result Attribute ClassFault = λ c. Ok (attributes.Code name c) in
    let go = inside at (whole_code pool (code_text code)) >>= make in
    let read : go ≡ Ok (attributes.Code name code) = ap (λ (r : Result Code ClassFault). inside at r >>= make)
    (whole_code_again pool code small fits) in
    let good : (has_no_body flags || list_any is_code earlier) ≡ false = rw (allowed, none) refl in
    ap (λ (bad : Bool). cond bad (Err (faults.Attribute at)) go) good ∙ read

-- ---- every fault of a content is the attribute's

suiting_fault : (pool : List Constant) (at descriptor name : ℕ) (o : Option ℕ) (f : ClassFault)
    → suiting_value pool at descriptor name o ≡ Err f → f ≡ faults.Attribute at
suiting_fault pool at descriptor name None f e = cc
suiting_fault pool at descriptor name (Some value) f e = by_test (suits_at pool descriptor value) e
  where
    by_test : (b : Bool) → cond b (Ok (attributes.ConstantValue name value)) (Err (faults.Attribute at)) ≡ Err f
        → f ≡ faults.Attribute at
    by_test true e = absurd cc
    by_test false e = cc

bad_fault : {A : Type 0} (b : Bool) (why f : ClassFault) (r : Result A ClassFault) → (r ≡ Err f → f ≡ why)
    → cond b (Err why) r ≡ Err f
    → f ≡ why
bad_fault true why f r one e = cc
bad_fault false why f r one e = one e

inside_fault : {X Y : Type 0} (at : ℕ) (r : Result X ClassFault) (make : X → Y) (f : ClassFault)
    → (r ≡ Err faults.Memory → ⊥)
    → (inside at r >>= λ x. Ok (make x)) ≡ Err f → f ≡ faults.Attribute at
inside_fault at (Ok x) make f never e = absurd cc
inside_fault at (Err faults.Memory) make f never e = absurd (never refl)
inside_fault at (Err g) make f never e = cc

content_fault : (pool : List Constant) (at : ℕ) (meaning : Meaning) (earlier : List Attribute) (name : ℕ)
    (content : List ℕ)
    (f : ClassFault) → content_of pool at meaning earlier name content ≡ Err f → f ≡ faults.Attribute at
unfolding content_of constant_value_of code_attribute_of
content_fault pool at meanings.Unread earlier name content f e = absurd cc
content_fault pool at (meanings.ConstantValue descriptor) earlier name content f e =
    bad_fault (list_any is_constant_value earlier) (faults.Attribute at) f
    (suiting_value pool at descriptor name (value_of content))
    (suiting_fault pool at descriptor name (value_of content) f) e
content_fault pool at (meanings.Code flags) earlier name content f e =
    bad_fault (has_no_body flags || list_any is_code earlier) (faults.Attribute at) f
    (inside at (whole_code pool content) >>= λ code. Ok
    (attributes.Code name code))
    (inside_fault at (whole_code pool content) (λ code. attributes.Code name code) f (whole_code_never pool content)) e

-- ---- an attribute of its owner

abbrev made_of : List Constant → Owner → ℕ → List Attribute → ℕ × List ℕ → Result Attribute ClassFault
made_of pool owner at earlier frame =
    content_of pool at (meaning_at owner (utf8_of pool frame.0)) earlier frame.0 frame.1

unread_made : (pool : List Constant) (at : ℕ) (earlier : List Attribute) (name : ℕ) (content : List ℕ)
    (attribute : Attribute)
    → content_of pool at meanings.Unread earlier name content ≡ Ok attribute
    → attributes.Unread (unread_of name content) ≡ attribute
unfolding content_of
unread_made pool at earlier name content attribute e = cc

unread_again : (pool : List Constant) (at : ℕ) (earlier : List Attribute) (attribute : UnreadAttribute)
    → content_of pool at meanings.Unread earlier attribute.name attribute.bytes ≡ Ok (attributes.Unread attribute)
unfolding content_of
unread_again pool at earlier attribute = refl

-- an attribute that isn't looked into stands after any others
unread_after : (owner : Owner) (earlier : List Attribute) (attribute : UnreadAttribute)
    → All (λ e. NotBoth owner e (attributes.Unread attribute)) earlier
unread_after owners.Class earlier attribute = λ k d lt hit. refl
unread_after (owners.Field flags descriptor) earlier attribute = λ k d lt hit. refl
unread_after (owners.Method flags) earlier attribute = λ k d lt hit. refl

unread_text_is : (pool : List Constant) (owner : Owner) (earlier : List Attribute) (name : ℕ) (content text : List ℕ)
    (attribute : Attribute) → IsFrame pool (name, content) text → attributes.Unread (unread_of name content) ≡ attribute
    → (IsUnread pool (unread_of name content) → IsAttributeOf pool owner (attributes.Unread (unread_of name content)))
    → IsAttributeText pool owner earlier attribute text
unread_text_is pool owner earlier name content text attribute frame is fits =
    let it : IsAttributeText pool owner earlier (attributes.Unread (unread_of name content)) text =
    record {
      fits = fits (unread_is pool (name, content) text frame);
      pairs = unread_after owner earlier (unread_of name content);
      spelled = frame.spelled;
    } in
    let P : Attribute → Type 0 = λ z. IsAttributeText pool owner earlier z text in subst P is it

field_made : (pool : List Constant) (flags descriptor at : ℕ) (earlier : List Attribute) (name : ℕ)
    (content text : List ℕ)
    (attribute : Attribute) → IsBytes content → IsFrame pool (name, content) text → (t : List ℕ)
    → utf8_of pool name ≡ Some t
    → (b : Bool) → (has_flag flags 8 && bytes_eq t constant_value_name) ≡ b
    → content_of pool at (cond b (meanings.ConstantValue descriptor) meanings.Unread) earlier name content
    ≡ Ok attribute
    → IsAttributeText pool (owners.Field flags descriptor) earlier attribute text
field_made pool flags descriptor at earlier name content text attribute fits frame t known true is e =
    let hits = and_parts (has_flag flags 8) (bytes_eq t constant_value_name) is in
    let is_named =
    known_text (λ t. t ≡ constant_value_name) pool name t known (equal_bytes t constant_value_name hits.1) in
    let v = value_is pool at descriptor name earlier content attribute fits e in
    let text-is : text ≡ framed_text name (u2 v.value) = frame.spelled
    ∙ ap (λ (c : List ℕ). framed_text name c) v.spelled in
    let it : IsAttributeText pool (owners.Field flags descriptor) earlier (attributes.ConstantValue name v.value) text =
    record {
      fits = (hits.0, is_named, v.suits);
      pairs =
          single_if is_constant_value earlier (attributes.ConstantValue name v.value) v.first;
      spelled = text-is;
    } in
    let P : Attribute → Type 0 = λ z. IsAttributeText pool (owners.Field flags descriptor) earlier z text in
    subst P (sym v.is) it
field_made pool flags descriptor at earlier name content text attribute fits frame t known false is e =
    unread_text_is pool (owners.Field flags descriptor) earlier name content text attribute frame
    (unread_made pool at earlier name content attribute e)
    (λ u. (
      u,
      λ static. record {
        name = known_text (λ t. t ≢ constant_value_name) pool name t known
            (other_bytes t constant_value_name
            (and_false_second (has_flag flags 8) (bytes_eq t constant_value_name) is static));
        size = u.size;
      },
    ))

method_made : (pool : List Constant) (flags at : ℕ) (earlier : List Attribute) (name : ℕ) (content text : List ℕ)
    (attribute : Attribute)
    → length pool < 2 ^ 16 → IsBytes content → IsFrame pool (name, content) text → (t : List ℕ)
    → utf8_of pool name ≡ Some t
    → (b : Bool) → bytes_eq t code_name ≡ b
    → content_of pool at (cond b (meanings.Code flags) meanings.Unread) earlier name
    content ≡ Ok attribute → IsAttributeText pool (owners.Method flags) earlier attribute text
method_made pool flags at earlier name content text attribute small fits frame t known true is e =
    let c = code_is pool at flags name earlier content attribute small fits frame.size e in
    let text-is : text ≡ framed_text name (code_text c.code) = frame.spelled
    ∙ ap (λ (z : List ℕ). framed_text name z) c.spelled in
    let is_named = known_text (λ t. t ≡ code_name) pool name t known (equal_bytes t code_name is) in
    let it : IsAttributeText pool (owners.Method flags) earlier (attributes.Code name c.code) text =
    record {
      fits = (c.allowed, is_named, c.fits);
      pairs = single_if is_code earlier (attributes.Code name c.code) c.first;
      spelled =
          text-is;
    } in
    let P : Attribute → Type 0 = λ z. IsAttributeText pool (owners.Method flags) earlier z text in subst P (sym c.is) it
method_made pool flags at earlier name content text attribute small fits frame t known false is e =
    unread_text_is pool (owners.Method flags) earlier name content text attribute frame
    (unread_made pool at earlier name content attribute e)
    (λ u. record {
      name = known_text (λ t. t ≢ code_name) pool name t known (other_bytes t code_name is);
      size =
          u.size;
    })

made_by : (pool : List Constant) (owner : Owner) (at : ℕ) (earlier : List Attribute) (name : ℕ) (content text : List ℕ)
    (attribute : Attribute) → length pool < 2 ^ 16 → IsBytes content → IsFrame pool (name, content) text → (t : List ℕ)
    → utf8_of pool name ≡ Some t
    → content_of pool at (meaning_at owner (Some t)) earlier name content ≡ Ok attribute
    → IsAttributeText pool owner earlier attribute text
made_by pool owners.Class at earlier name content text attribute small fits frame t is e =
    unread_text_is pool owners.Class earlier name content text attribute frame
    (unread_made pool at earlier name content attribute e)
    (λ u. u)
made_by pool (owners.Field flags descriptor) at earlier name content text attribute small fits frame t is e =
    field_made pool flags descriptor at earlier name content text attribute fits frame t is
    (has_flag flags 8 && bytes_eq t constant_value_name) refl e
made_by pool (owners.Method flags) at earlier name content text attribute small fits frame t is e =
    method_made pool flags at earlier name content text attribute small fits frame t is (bytes_eq t code_name) refl e

content_fits : (pool : List Constant) (frame : ℕ × List ℕ) (text : List ℕ) → IsFrame pool frame text → IsBytes text
    → IsBytes frame.1
content_fits pool frame text f fits =
    let P : List ℕ → Type 0 = λ z. IsBytes z in
    IsBytes-back (u4 (length frame.1)) frame.1
    (IsBytes-back (u2 frame.0) (u4 (length frame.1) ++ frame.1) (subst P f.spelled fits))

attribute_made : (pool : List Constant) (owner : Owner) (at : ℕ) (earlier : List Attribute) → length pool < 2 ^ 16
    → (frame : ℕ × List ℕ) (text : List ℕ) (attribute : Attribute) → IsBytes text → IsFrame pool frame text
    → made_of pool owner at earlier frame ≡ Ok attribute
    → IsAttributeText pool owner earlier attribute text
attribute_made pool owner at earlier small frame text attribute fits f e =
    let t = utf8_at pool frame.0 f.name in
    let known : content_of pool at (meaning_at owner (Some t.text)) earlier frame.0 frame.1 ≡ Ok attribute =
    ap (λ (o : Option (List ℕ)). content_of pool at (meaning_at owner o) earlier frame.0 frame.1) (sym t.is) ∙ e in
    made_by pool owner at earlier frame.0 frame.1 text attribute small (content_fits pool frame text f fits) f t.text
    t.is known

-- ---- and back

-- what an attribute's text is framed of
record Framed (pool : List Constant) (owner : Owner) (at : ℕ) (earlier : List Attribute) (attribute : Attribute)
    (text : List ℕ) : Type 0
  where
    frame : ℕ × List ℕ
    framed : IsFrame pool frame text
    made : made_of pool owner at earlier frame ≡ Ok attribute

unread_framed : (pool : List Constant) (owner : Owner) (at : ℕ) (earlier : List Attribute) (attribute : UnreadAttribute)
    (text : List ℕ)
    → length pool < 2 ^ 16 → IsUnread pool attribute → text ≡ unread_text attribute
    → ((t : List ℕ) → utf8_of pool attribute.name ≡ Some t → meaning_at owner (Some t) ≡ meanings.Unread)
    → Framed pool owner at earlier (attributes.Unread attribute) text
unread_framed pool owner at earlier attribute text small fits e means =
    let t = utf8_at pool attribute.name fits.name in
    let meaning : meaning_at owner (utf8_of pool attribute.name) ≡ meanings.Unread =
    ap (λ (o : Option (List ℕ)). meaning_at owner o) t.is
    ∙ means t.text t.is in
    let P : List ℕ → Type 0 = λ z. IsFrame pool (attribute.name, attribute.bytes) z in
    record {
      frame = (attribute.name, attribute.bytes);
      framed = subst P (sym e) (frame_of_unread pool attribute small fits);
      made = ap (λ (m : Meaning). content_of pool at m earlier attribute.name attribute.bytes) meaning
          ∙ unread_again pool at earlier attribute;
    }

-- an attribute whose name is known
known_framed : (pool : List Constant) (owner : Owner) (at : ℕ) (earlier : List Attribute) (attribute : Attribute)
    (wanted : List ℕ)
    (name : ℕ) (content text : List ℕ) → length pool < 2 ^ 16 → IsIndexOf (IsUtf8Where (λ t. t ≡ wanted)) pool name
    → length content < 2 ^ 32
    → text ≡ framed_text name content → content_of pool at (meaning_at owner (Some wanted)) earlier name content
    ≡ Ok attribute
    → Framed pool owner at earlier attribute text
known_framed pool owner at earlier attribute wanted name content text small is_named size e made =
    let t = text_at (λ t. t ≡ wanted) pool name is_named in
    let known : utf8_of pool name ≡ Some wanted = t.is ∙ ap (λ (z : List ℕ). Some z) t.holds in
    let lt = within (IsUtf8Where (λ t. t ≡ wanted)) pool name is_named in
    record {
      frame = (name, content);
      framed =
          record {
            index = omega (arith, lt, small);
            name = utf8_where_is_utf8 (λ t. t ≡ wanted) pool name is_named;
            size = size;
            spelled = e;
          };
      made = ap (λ (o : Option (List ℕ)). content_of pool at (meaning_at owner o) earlier name content) known ∙ made;
    }

-- the text at an index of a text of some form has that form
utf8_has_form : (P : List ℕ → Type 0) (pool : List Constant) (index : ℕ) (t : List ℕ) → utf8_of pool index ≡ Some t
    → IsIndexOf (IsUtf8Where P) pool index → P t
utf8_has_form P pool index t known h =
    let found = text_at P pool index h in
    let both_are : Some found.text ≡ Some t = sym found.is ∙ known in
    let same : found.text ≡ t = cc in
    subst P same found.holds

field_framed : (pool : List Constant) (flags descriptor at : ℕ) (earlier : List Attribute) (attribute : Attribute)
    (text : List ℕ)
    → length pool < 2 ^ 16 → IsAttributeText pool (owners.Field flags descriptor) earlier attribute text
    → Framed pool (owners.Field flags descriptor) at earlier attribute text
field_framed pool flags descriptor at earlier (attributes.ConstantValue name value) text small s =
    let none = none_if is_constant_value earlier s.pairs in
    let made = value_again pool at descriptor name value earlier small s.fits.2 none in
    let itself : bytes_eq constant_value_name constant_value_name ≡ true =
    (bytes_eq-Decides constant_value_name constant_value_name).1 refl in
    let hit : (has_flag flags 8 && bytes_eq constant_value_name constant_value_name) ≡ true =
    rw (s.fits.0, itself) refl in
    let known : content_of pool at (meaning_at (owners.Field flags descriptor) (Some constant_value_name)) earlier name
    (u2 value) ≡ Ok
    (attributes.ConstantValue name value) =
    ap (λ (b : Bool). content_of pool at (cond b (meanings.ConstantValue descriptor) meanings.Unread) earlier name
    (u2 value)) hit ∙ made in
    known_framed pool (owners.Field flags descriptor) at earlier (attributes.ConstantValue name value)
    constant_value_name name
    (u2 value) text small s.fits.1 (omega arith) s.spelled known
field_framed pool flags descriptor at earlier (attributes.Code name code) text small s = absurd s.fits
field_framed pool flags descriptor at earlier (attributes.Unread attribute) text small s =
    unread_framed pool (owners.Field flags descriptor) at earlier attribute text small s.fits.0 s.spelled
    (λ t known.
    let miss : (has_flag flags 8 && bytes_eq t constant_value_name) ≡ false =
    and_false_where (has_flag flags 8) (bytes_eq t constant_value_name)
    (λ static. unequal_bytes t constant_value_name
    (utf8_has_form (λ t. t ≢ constant_value_name) pool attribute.name t known
    (s.fits.1 static).name)) in
    ap (λ (b : Bool). cond b (meanings.ConstantValue descriptor) meanings.Unread) miss)

method_framed : (pool : List Constant) (flags at : ℕ) (earlier : List Attribute) (attribute : Attribute) (text : List ℕ)
    → length pool < 2 ^ 16 → IsAttributeText pool (owners.Method flags) earlier attribute text
    → Framed pool (owners.Method flags) at earlier attribute text
method_framed pool flags at earlier (attributes.ConstantValue name value) text small s = absurd s.fits
method_framed pool flags at earlier (attributes.Code name code) text small s =
    let none = none_if is_code earlier s.pairs in
    let made = code_again pool at flags name earlier code small s.fits.0 s.fits.2 none in
    let hit : bytes_eq code_name code_name ≡ true = (bytes_eq-Decides code_name code_name).1 refl in
    let known : content_of pool at (meaning_at (owners.Method flags) (Some code_name)) earlier name (code_text code)
    ≡ Ok
    (attributes.Code name code) =
    ap (λ (b : Bool). content_of pool at (cond b (meanings.Code flags) meanings.Unread) earlier name (code_text code))
    hit
    ∙ made in
    known_framed pool (owners.Method flags) at earlier (attributes.Code name code) code_name name
    (code_text code) text small s.fits.1
    s.fits.2.size s.spelled known
method_framed pool flags at earlier (attributes.Unread attribute) text small s =
    let fits : IsUnread pool attribute =
    record { name = utf8_where_is_utf8 (λ t. t ≢ code_name) pool attribute.name s.fits.name; size = s.fits.size } in
    unread_framed pool (owners.Method flags) at earlier attribute text small fits s.spelled
    (λ t known.
    let miss : bytes_eq t code_name ≡ false =
    unequal_bytes t code_name (utf8_has_form (λ t. t ≢ code_name) pool attribute.name t known s.fits.name) in
    ap (λ (b : Bool). cond b (meanings.Code flags) meanings.Unread) miss)

class_framed : (pool : List Constant) (at : ℕ) (earlier : List Attribute) (attribute : Attribute) (text : List ℕ)
    → length pool < 2 ^ 16
    → IsAttributeText pool owners.Class earlier attribute text → Framed pool owners.Class at earlier attribute text
class_framed pool at earlier (attributes.ConstantValue name value) text small s = absurd s.fits
class_framed pool at earlier (attributes.Code name code) text small s = absurd s.fits
class_framed pool at earlier (attributes.Unread attribute) text small s =
    unread_framed pool owners.Class at earlier attribute text small s.fits s.spelled (λ t known. refl)

attribute_framed : (pool : List Constant) (owner : Owner) (at : ℕ) (earlier : List Attribute) (attribute : Attribute)
    (text : List ℕ)
    → length pool < 2 ^ 16 → IsAttributeText pool owner earlier attribute text
    → Framed pool owner at earlier attribute text
attribute_framed pool owners.Class at earlier attribute text small s =
    class_framed pool at earlier attribute text small s
attribute_framed pool (owners.Field flags descriptor) at earlier attribute text small s =
    field_framed pool flags descriptor at earlier attribute text small s
attribute_framed pool (owners.Method flags) at earlier attribute text small s =
    method_framed pool flags at earlier attribute text small s

attribute_makes : (pool : List Constant) (owner : Owner) (at : ℕ) (earlier : List Attribute) → length pool < 2 ^ 16
    → Makes (IsFrame pool) (IsAttributeText pool owner earlier) (IsContent pool owner earlier)
    (made_of pool owner at earlier)
    (faults.Attribute at)
attribute_makes pool owner at earlier small = record {
  made = attribute_made pool owner at earlier small;
  again = λ attribute text s. let f = attribute_framed pool owner at earlier attribute text small s in
      (f.frame, (f.framed, f.made));
  fault = λ frame f e. content_fault pool at (meaning_at owner (utf8_of pool frame.0)) earlier frame.0 frame.1 f e;
  rule = λ frame text attribute f s. (
    attribute,
    let P : List ℕ → Type 0 = λ z. IsAttributeText pool owner earlier attribute z in
        subst P f.spelled s,
  );
  by_rule = λ frame text f content. (
    content.0,
    let P : List ℕ → Type 0 = λ z. IsAttributeText pool owner earlier content.0 z in
        subst P (sym f.spelled) content.1,
  );
}

attribute_lawful : (pool : List Constant) (owner : Owner) → length pool < 2 ^ 16
    → (total : ℕ) (earlier : List Attribute)
    → Lawful (attribute_at pool owner total earlier) (IsAttributeText pool owner earlier)
    (AttributeFails pool owner total earlier)
unfolding attribute_at
attribute_lawful pool owner small total earlier =
    made_lawful (IsAttributeText pool owner earlier) (IsContent pool owner earlier) (framed_at pool total)
    (λ bytes. made_of pool owner (offset total bytes) earlier) (λ bytes. faults.Attribute (offset total bytes))
    (frame_lawful pool total)
    (λ bytes. attribute_makes pool owner (offset total bytes) earlier small)

pub attributes_lawful : (pool : List Constant) (owner : Owner) → length pool < 2 ^ 16 → (total : ℕ)
    → Lawful (attributes_at pool owner total) (IsAttributes pool owner) (AttributesFail pool owner total)
unfolding attributes_at
attributes_lawful pool owner small total =
    table_lawful attribute_text (IsAttributeOf pool owner) (NotBoth owner) (AttributeFails pool owner total)
    (attribute_at pool owner total)
    total (attribute_lawful pool owner small total)
