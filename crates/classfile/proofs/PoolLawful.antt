-- The reader of a constant pool is lawful.
use Rattle.std.proofs.Common.{◌≡◌, ℕ, zero, suc, ◌+◌, ◌-◌, ◌^◌, ◌%◌, ◌<◌, ◌⊎◌, Bool, true, false, ◌&&◌, ◌||◌, cond, eqb}
use Rattle.std.proofs.Common.{ltb, List, [], ◌∷◌}
use Rattle.std.proofs.Common.{◌++◌, length, Option, Some, None, slice_get, is_some, Result, Ok, Err, refl, sym, ap}
use Rattle.std.proofs.Common.{subst, ◌∙◌, arith, inl}
use Rattle.std.proofs.Common.{inr}
use Rattle.std.specs.Bool.{Decides}
use Rattle.std.specs.Prelude.{IsSomeAnd}
use Rattle.std.specs.Int.{w16}
use Rattle.std.specs.List.{All, flat_map}
use Rattle.std.proofs.lemmas.Bool.{ltb-true, lt-ltb, ne_eqb, and_parts, and_from, or_cases, or_right}
use Rattle.std.proofs.lemmas.List.{length-append}
use Rattle.std.proofs.lemmas.List.Elements.{All-nil, All-cons}
use Rattle.classfile.specs.declared.fault.ClassFault.{ClassFault}
use Rattle.classfile.specs.declared.fault.ClassFault.TheVariants as faults
use Rattle.classfile.specs.declared.constant.Constant.{Constant}
use Rattle.classfile.specs.declared.constant.Constant.TheVariants as constants
use Rattle.classfile.specs.reading.Numbers.{◌>>=◌, number_at}
use Rattle.classfile.specs.Gives.{offset}
use Rattle.classfile.specs.Faults.{Either, Number, IsConstantsText}
use Rattle.classfile.specs.reading.Constants.{constants_at}
use Rattle.classfile.specs.reading.Checks.{holds, member_type, member_check, utf8_check, class_check, type_check, check}
use Rattle.classfile.specs.reading.Checks.{checks}
use Rattle.classfile.specs.Lookup.{utf8_in, utf8_of}
use Rattle.classfile.specs.reading.LookupTests.{has_utf8, passes, is_class, descriptor_in, descriptor_of, is_member}
use Rattle.classfile.specs.reading.Descriptors.{is_field, is_method, is_class_name}
use Rattle.classfile.specs.Grammar.{IsFieldDescriptor, IsMethodDescriptor, IsClassName}
use Rattle.classfile.specs.Pool.{IsIndexOf, IsUtf8, IsUtf8Where, IsClass, IsTyped, IsNameAndType, IsMemberref}
use Rattle.classfile.specs.Pool.{IsDescriptor, HasReferences}
use Rattle.classfile.specs.Spelling.{u2, constant_text, constants_text, AreConstants}
use Rattle.classfile.specs.reading.Pool.{checked_at, pool_at}
use Rattle.classfile.specs.FirstFault.{Breaks, BreaksOr, Ruled, MemberrefFails, ReferenceFails, ReferencesFail}
use Rattle.classfile.specs.FirstFault.{CountedFail, IsPoolText}
use Rattle.classfile.specs.FirstFault.{PoolFails}
use Rattle.classfile.proofs.Lawful.{Lawful, Both, wide16, number_lawful, bind_ok, bind_err, ok_is}
use Rattle.classfile.proofs.ConstantsLawful.{constants_lawful}
use Rattle.classfile.proofs.RuleLawful.{Refuses, append_equal, guarded_lawful}
use Rattle.classfile.proofs.Lawful.{restated, then_lawful}
use Rattle.classfile.proofs.LookupTestsLemmas.{text_decides, utf8_decides, class_decides, member_decides}
use Rattle.classfile.proofs.LookupTestsLemmas.{name_and_type_decides}
use Rattle.classfile.proofs.ScanLemmas.{field_decides, method_decides, class_name_decides}

-- ---- checks

abbrev Checked : Type 0
Checked = Result (Unit {0}) ClassFault

-- a check passes exactly what keeps a rule, and its faults are those of the rule
record Checks (r : Checked) (Rule : Type 0) (Fails : ClassFault → Type 0) : Type 0 where
  passes : r ≡ Ok tt → Rule
  passed : Rule → r ≡ Ok tt
  blames : (f : ClassFault) → r ≡ Err f → Fails f
  blamed : (f : ClassFault) → Fails f → r ≡ Err f

holds_checks : (b : Bool) (Rule : Type 0) (why : ClassFault) → Decides b Rule
    → Checks (holds b why) Rule (Breaks Rule why)
holds_checks true Rule why d = record {
  passes = λ e. d.0 refl;
  passed = λ h. refl;
  blames = λ f e. absurd cc;
  blamed =
      λ f h. absurd (h.0 (d.0 refl));
}
holds_checks false Rule why d = record {
  passes = λ e. absurd cc;
  passed = λ h. let e = d.1 h in absurd cc;
  blames = λ f e. (λ h. let e = d.1 h in cc, cc);
  blamed = λ f h. rw h.1 refl;
}

nothing_checks : Checks (Ok tt) (Unit {0}) (λ f. ⊥)
nothing_checks = record { passes = λ e. tt; passed = λ h. refl; blames = λ f e. absurd cc; blamed = λ f h. absurd h }

-- one check and then another
then_checks : (r s : Checked) (P Q : Type 0) (F G : ClassFault → Type 0) → Checks r P F → Checks s Q G
    → Checks (r >>= λ _. s) (P × Q) (λ f. F f ⊎ (P × G f))
then_checks (Ok u) s P Q F G one two = record {
  passes = λ e. (one.passes refl, two.passes e);
  passed = λ h. two.passed h.1;
  blames = λ f e. inr (one.passes refl, two.blames f e);
  blamed = λ f h. elim h [ inl here ↦ let e = one.blamed f here in absurd cc | inr other ↦ two.blamed f other.1 ];
}
then_checks (Err g) s P Q F G one two = record {
  passes = λ e. absurd cc;
  passed = λ h. let e = one.passed h.0 in absurd cc;
  blames = λ f e. inl (one.blames f (let q : g ≡ f = cc in rw q refl));
  blamed = λ f h. elim h [
    | inl here ↦ let e = one.blamed f here in let q : g ≡ f = cc in rw q refl
    | inr other ↦ let e =
        one.passed other.0 in absurd cc
  ];
}

unless_checks : (b : Bool) (s : Checked) (P Q : Type 0) (why : ClassFault) (G : ClassFault → Type 0) → Decides b P
    → Checks s Q G
    → Checks (cond b s (Err why)) (P × Q) (BreaksOr P why G)
unless_checks true s P Q why G d two = record {
  passes = λ e. (d.0 refl, two.passes e);
  passed = λ h. two.passed h.1;
  blames = λ f e. inr (d.0 refl, two.blames f e);
  blamed = λ f h. elim h [ inl broken ↦ absurd (broken.0 (d.0 refl)) | inr other ↦ two.blamed f other.1 ];
}
unless_checks false s P Q why G d two = record {
  passes = λ e. absurd cc;
  passed = λ h. let e = d.1 h.0 in absurd cc;
  blames = λ f e. inl (λ h. let e = d.1 h in cc, cc);
  blamed = λ f h. elim h [ inl broken ↦ rw broken.1 refl | inr other ↦ let e = d.1 other.0 in absurd cc ];
}

-- nothing of the kind that is wanted stands there
missing_checks : {Kind Form : Type 0} (why other : ClassFault) → ¬ Kind → ¬ Form
    → Checks (Err why) Form (BreaksOr Kind why (Breaks Form other))
missing_checks why other no_kind no_form = record {
  passes = λ e. absurd cc;
  passed = λ h. absurd (no_form h);
  blames = λ f e. inl (no_kind, cc);
  blamed = λ f h. elim h [ inl broken ↦ rw broken.1 refl | inr kind ↦ absurd (no_kind kind.0) ];
}

-- something of the kind stands there
present_checks : {Kind Form : Type 0} (r : Checked) (why other : ClassFault) → Kind → Checks r Form (Breaks Form other)
    → Checks r Form (BreaksOr Kind why (Breaks Form other))
present_checks r why other kind one = record {
  passes = one.passes;
  passed = one.passed;
  blames = λ f e. inr (kind, one.blames f e);
  blamed = λ f h. elim h [ inl broken ↦ absurd (broken.0 kind) | inr b ↦ one.blamed f b.1 ];
}

-- ---- one constant

class_checks : (at index : ℕ) (o : Option Constant)
    → Checks (class_check at index (utf8_in o)) (IsSomeAnd o (IsUtf8Where IsClassName))
    (BreaksOr (IsSomeAnd o IsUtf8) (faults.Index (at + 1))
    (Breaks (IsSomeAnd o (IsUtf8Where IsClassName)) (faults.Descriptor index)))
class_checks at index None = missing_checks (faults.Index (at + 1)) (faults.Descriptor index) (λ h. h) (λ h. h)
class_checks at index (Some (constants.Utf8 text)) =
    present_checks (holds (is_class_name text) (faults.Descriptor index)) (faults.Index (at + 1))
    (faults.Descriptor index) tt
    (holds_checks (is_class_name text) (IsClassName text) (faults.Descriptor index) (class_name_decides text))
class_checks at index (Some c) = missing_checks (faults.Index (at + 1)) (faults.Descriptor index) (λ h. h) (λ h. h)

descriptor_decides : (t : List ℕ) → Decides (is_field t || is_method t) (IsDescriptor t)
descriptor_decides t = (
  λ e. elim (or_cases (is_field t) (is_method t) e) [
    | inl field ↦ inl ((field_decides t).0 field)
    | inr method ↦ inr
        ((method_decides t).0 method)
  ],
  λ h. elim h [
    | inl field ↦ rw ((field_decides t).1 field) refl
    | inr method ↦ or_right (is_field t) (is_method t)
        ((method_decides t).1 method)
  ],
)

type_checks : (at index : ℕ) (o : Option Constant)
    → Checks (type_check at index (utf8_in o)) (IsSomeAnd o (IsUtf8Where IsDescriptor))
    (BreaksOr (IsSomeAnd o IsUtf8) (faults.Index (at + 3))
    (Breaks (IsSomeAnd o (IsUtf8Where IsDescriptor)) (faults.Descriptor index)))
type_checks at index None = missing_checks (faults.Index (at + 3)) (faults.Descriptor index) (λ h. h) (λ h. h)
type_checks at index (Some (constants.Utf8 text)) =
    present_checks (holds (is_field text || is_method text) (faults.Descriptor index)) (faults.Index (at + 3))
    (faults.Descriptor index) tt
    (holds_checks (is_field text || is_method text) (IsDescriptor text) (faults.Descriptor index)
    (descriptor_decides text))
type_checks at index (Some c) = missing_checks (faults.Index (at + 3)) (faults.Descriptor index) (λ h. h) (λ h. h)

typed_checks : (test : List ℕ → Bool) (Form : List ℕ → Type 0) → ((t : List ℕ) → Decides (test t) (Form t))
    → (pool : List Constant) (at index : ℕ) (o : Option Constant)
    → Checks (member_type test pool at index (descriptor_in o)) (IsSomeAnd o (IsTyped Form pool))
    (BreaksOr (IsSomeAnd o IsNameAndType) (faults.Index (at + 3))
    (Breaks (IsSomeAnd o (IsTyped Form pool)) (faults.Descriptor index)))
typed_checks test Form means pool at index None = missing_checks (faults.Index (at + 3)) (faults.Descriptor index)
    (λ h. h) (λ h. h)
typed_checks test Form means pool at index (Some (constants.NameAndType name descriptor)) =
    present_checks (holds (passes test (utf8_of pool descriptor)) (faults.Descriptor index)) (faults.Index (at + 3))
    (faults.Descriptor index) tt
    (holds_checks (passes test (utf8_of pool descriptor)) (IsIndexOf (IsUtf8Where Form) pool descriptor)
    (faults.Descriptor index)
    (text_decides test Form means pool descriptor))
typed_checks test Form means pool at index (Some c) = missing_checks (faults.Index (at + 3)) (faults.Descriptor index)
    (λ h. h) (λ h. h)

member_checks : (test : List ℕ → Bool) (Form : List ℕ → Type 0) → ((t : List ℕ) → Decides (test t) (Form t))
    → (pool : List Constant) (at index class name_and_type : ℕ)
    → Checks (member_check test pool at index class name_and_type)
    (IsIndexOf IsClass pool class × IsIndexOf (IsTyped Form pool) pool
    name_and_type) (MemberrefFails Form pool at index class name_and_type)
unfolding member_check descriptor_of
member_checks test Form means pool at index class name_and_type =
    unless_checks (is_class pool class) (member_type test pool at index (descriptor_of pool name_and_type))
    (IsIndexOf IsClass pool class)
    (IsIndexOf (IsTyped Form pool) pool name_and_type) (faults.Index (at + 1)) _
    (class_decides pool class) (typed_checks test Form means pool at index (slice_get pool name_and_type))

utf8_checks : (pool : List Constant) (at index : ℕ) → Checks (utf8_check pool at index) (IsIndexOf IsUtf8 pool index)
    (Breaks (IsIndexOf IsUtf8 pool index) (faults.Index (at + 1)))
utf8_checks pool at index = holds_checks (has_utf8 pool index) (IsIndexOf IsUtf8 pool index) (faults.Index (at + 1))
    (utf8_decides pool index)

kind_decides : (kind : ℕ) → Decides (ltb 0 kind && ltb kind 10) ((0 < kind) × (kind < 10))
kind_decides kind = (
  λ e. let b = and_parts (ltb 0 kind) (ltb kind 10) e in (ltb-true 0 kind b.0, ltb-true kind 10 b.1),
  λ h. and_from (ltb 0 kind) (ltb kind 10) (lt-ltb 0 kind h.0) (lt-ltb kind 10 h.1),
)

handle_checks : (pool : List Constant) (at index kind reference : ℕ)
    → Checks (check pool at index (constants.MethodHandle kind reference))
    (HasReferences pool (constants.MethodHandle kind reference))
    (ReferenceFails pool at index (constants.MethodHandle kind reference))
unfolding check
handle_checks pool at index kind reference =
    let one = holds_checks (ltb 0 kind && ltb kind 10) ((0 < kind) × (kind < 10)) (faults.Index (at + 1))
    (kind_decides kind) in
    let two = holds_checks (is_member pool reference) (IsIndexOf IsMemberref pool reference) (faults.Index (at + 2))
    (member_decides pool reference) in
    let c = then_checks (holds (ltb 0 kind && ltb kind 10) (faults.Index (at + 1)))
    (holds (is_member pool reference) (faults.Index (at + 2))) _ _ _ _ one two in
    record {
      passes = λ e. let p = c.passes e in (p.0.0, p.0.1, p.1);
      passed = λ h. c.passed ((h.0, h.1), h.2);
      blames = c.blames;
      blamed =
          c.blamed;
    }

constant_checks : (pool : List Constant) (at index : ℕ) (c : Constant)
    → Checks (check pool at index c) (HasReferences pool c) (ReferenceFails pool at index c)
unfolding check utf8_of
constant_checks pool at index constants.Unusable = nothing_checks
constant_checks pool at index (constants.Utf8 text) = nothing_checks
constant_checks pool at index (constants.Integer bits) = nothing_checks
constant_checks pool at index (constants.Float bits) = nothing_checks
constant_checks pool at index (constants.Long high low) = nothing_checks
constant_checks pool at index (constants.Double high low) = nothing_checks
constant_checks pool at index (constants.Class name) = class_checks at index (slice_get pool name)
constant_checks pool at index (constants.String text) = utf8_checks pool at text
constant_checks pool at index (constants.MethodType text) = utf8_checks pool at text
constant_checks pool at index (constants.Fieldref class name_and_type) =
    member_checks is_field IsFieldDescriptor field_decides pool at index class name_and_type
constant_checks pool at index (constants.Methodref class name_and_type) =
    member_checks is_method IsMethodDescriptor method_decides pool at index class name_and_type
constant_checks pool at index (constants.InterfaceMethodref class name_and_type) =
    member_checks is_method IsMethodDescriptor method_decides pool at index class name_and_type
constant_checks pool at index (constants.NameAndType name descriptor) =
    then_checks (utf8_check pool at name) (type_check at index (utf8_of pool descriptor)) _ _ _ _
    (utf8_checks pool at name)
    (type_checks at index (slice_get pool descriptor))
constant_checks pool at index (constants.MethodHandle kind reference) = handle_checks pool at index kind reference
constant_checks pool at index (constants.InvokeDynamic bootstrap name_and_type) =
    holds_checks (is_some (descriptor_of pool name_and_type)) (IsIndexOf IsNameAndType pool name_and_type)
    (faults.Index (at + 3))
    (name_and_type_decides pool name_and_type)

-- ---- all constants

abbrev left_by : List Constant → List ℕ → ℕ
left_by cs rest = length (constants_text cs ++ rest)

left_is : (c : Constant) (cs : List Constant) (rest : List ℕ)
    → left_by (c ∷ cs) rest - length (constant_text c) ≡ left_by cs rest
left_is c cs rest = omega (
  arith,
  length-append (constant_text c ++ constants_text cs) rest,
  length-append (constant_text c)
      (constants_text cs),
  length-append (constants_text cs) rest,
)

references_checks : (pool : List Constant) (total : ℕ) (rest : List ℕ) (index : ℕ) (cs : List Constant)
    → index + length cs < 2 ^ 16
    → Checks (checks pool total (left_by cs rest) index cs) (All (HasReferences pool) cs)
    (ReferencesFail pool total rest index cs)
unfolding checks
references_checks pool total rest index [] lt = record {
  passes = λ e. All-nil (HasReferences pool);
  passed = λ h. refl;
  blames =
      λ f e. absurd cc;
  blamed = λ f h. absurd h;
}
references_checks pool total rest index (c ∷ cs) lt =
    let inner = references_checks pool total rest (index + 1) cs (omega (arith, lt)) in
    let next : (index + 1) % 2 ^ 16 ≡ index + 1 = omega (arith, lt) in
    let P : ℕ → Type 0 = λ left. Checks (checks pool total left (index + 1) cs) (All (HasReferences pool) cs)
    (ReferencesFail pool total rest (index + 1) cs) in
    let Q : ℕ → Type 0 = λ i. Checks (checks pool total (left_by (c ∷ cs) rest - length (constant_text c)) i cs)
    (All (HasReferences pool) cs) (ReferencesFail pool total rest (index + 1) cs) in
    let others = subst Q (sym next) (subst P (sym (left_is c cs rest)) inner) in
    let first = constant_checks pool (total - left_by (c ∷ cs) rest) index c in
    let all = then_checks (check pool (total - left_by (c ∷ cs) rest) index c)
    (checks pool total (left_by (c ∷ cs) rest - length (constant_text c)) ((index + 1) % 2 ^ 16) cs) _ _ _ _ first
    others in
    record {
      passes = λ e. let p = all.passes e in All-cons (HasReferences pool) c cs p.0 p.1;
      passed = λ h. all.passed (h 0 c (omega arith), λ k d l. h (suc k) d (omega arith));
      blames = all.blames;
      blamed = all.blamed;
    }

-- a check of what was read, by what stands after
checked_lawful : {X : Type 0} {S : X → List ℕ → Type 0} {F : List ℕ → ClassFault → Type 0}
    (r : List ℕ → Result (X × List ℕ) ClassFault)
    (test : List ℕ → X → Checked) (Rule : X → Type 0) (G : X → List ℕ → ClassFault → Type 0) → Lawful r S F
    → ((bytes : List ℕ) (x : X) (text rest : List ℕ) → S x text → bytes ≡ text ++ rest → Checks (test bytes x) (Rule x)
    (G x rest))
    → Lawful (λ bytes. r bytes >>= λ p. test bytes p.0 >>= λ _. Ok p) (Ruled S Rule) (Either S F G)
checked_lawful {X} r test Rule G one law =
    let go : List ℕ → X × List ℕ → Result (X × List ℕ) ClassFault = λ bytes p. test bytes p.0 >>= λ _. Ok p in
    record {
      takes = λ bytes x rest fits e.
          let b = bind_ok (r bytes) (go bytes) (x, rest) e in
          let keep : Unit {0} → Result (X × List ℕ) ClassFault = λ _. Ok b.0 in
          let c = bind_ok (test bytes b.0.0) keep (x, rest) b.2 in
          let p : b.0 ≡ (x, rest) = ok_is b.0 (x, rest) c.2 in
          let same : r bytes ≡ Ok (x, rest) = b.1 ∙ ap (λ (q : X × List ℕ). Ok q) p in
          let t = one.takes bytes x rest fits same in
          let test-is : test bytes x ≡ Ok tt = ap (λ (q : X × List ℕ). test bytes q.0) (sym p) ∙ c.1 in
          record {
            text = t.text;
            spelled = (t.spelled, (law bytes x t.text rest t.spelled t.parts).passes test-is);
            parts = t.parts;
            rest_fits = t.rest_fits;
          };
      again = λ x text rest s.
          let passed = (law (text ++ rest) x text rest s.0 refl).passed s.1 in
          ap (λ (z : Result (X × List ℕ) ClassFault). z >>= go (text ++ rest)) (one.again x text rest s.0)
          ∙ rw passed refl;
      blames = λ bytes f fits e.
          elim (bind_err (r bytes) (go bytes) f e) [
            | inl here ↦ inl (one.blames bytes f fits here)
            | inr (x, is, there) ↦
                let t = one.takes bytes x.0 x.1 fits is in
                let keep : Unit {0} → Result (X × List ℕ) ClassFault = λ _. Ok x in
                elim (bind_err (test bytes x.0) keep f there) [
                  | inl failed ↦ inr (record {
                    value = x.0;
                    text = t.text;
                    rest = x.1;
                    spelled = t.spelled;
                    parts = t.parts;
                    next =
                        (law bytes x.0 t.text x.1 t.spelled t.parts).blames f failed;
                  })
                  | inr (u, passed, kept) ↦ absurd cc
                ]
          ];
      blamed = λ bytes f fits h.
          elim h [
            | inl here ↦ ap (λ (z : Result (X × List ℕ) ClassFault). z >>= go bytes) (one.blamed bytes f fits here)
            | inr w ↦
                let is : r bytes ≡ Ok (w.value, w.rest) = ap r w.parts ∙ one.again w.value w.text w.rest w.spelled in
                let failed = (law bytes w.value w.text w.rest w.spelled w.parts).blamed f w.next in
                ap (λ (z : Result (X × List ℕ) ClassFault). z >>= go bytes) is ∙ rw failed refl
          ];
    }

-- ---- the pool

constants_text_is : (count : ℕ) (pool : List Constant) (text : List ℕ) → IsConstantsText count pool text
    → text ≡ constants_text pool
constants_text_is count pool text e = e.spelled ∙ ap (λ (z : List Constant). constants_text z) (sym e.is)

constants_length : (count : ℕ) (pool : List Constant) (text : List ℕ) → 0 < count → IsConstantsText count pool text
    → length pool ≡ count
constants_length count pool text some e = ap (λ (z : List Constant). length z) e.is ∙ omega (arith, e.number)

counted_lawful : (count total : ℕ) → 0 < count → count < 2 ^ 16
    → Lawful (checked_at count total) (Ruled (IsConstantsText count) (λ pool. All (HasReferences pool) pool))
    (CountedFail count total)
counted_lawful count total some lt =
    checked_lawful (constants_at count total) (λ bytes pool. checks pool total (length bytes) 0 pool)
    (λ pool. All (HasReferences pool) pool)
    (λ pool rest. ReferencesFail pool total rest 0 pool) (constants_lawful count total)
    (λ bytes pool text rest s parts.
    let left : left_by pool rest ≡ length bytes =
    ap (λ (z : List ℕ). length (z ++ rest)) (sym (constants_text_is count pool text s))
    ∙ ap (λ (z : List ℕ). length z) (sym parts) in
    let P : ℕ → Type 0 = λ n. Checks (checks pool total n 0 pool) (All (HasReferences pool) pool)
    (ReferencesFail pool total rest 0 pool) in
    subst P left
    (references_checks pool total rest 0 pool (omega (arith, lt, constants_length count pool text some s))))

some_refuses : (count : ℕ) → Refuses (eqb count 0) (0 < count)
some_refuses zero = (λ e. absurd cc, λ h. absurd (omega (arith, h)))
some_refuses (suc k) = (λ e. omega arith, λ h. ne_eqb (suc k) 0 (λ e. omega (arith, e)))

abbrev PoolParts : List Constant → List ℕ → Type 0
PoolParts =
    Both (Number w16)
    (λ count pool text. (0 < count) × Ruled (IsConstantsText count) (λ pool. All (HasReferences pool) pool) pool text)

pool_is : (pool : List Constant) (text : List ℕ) → PoolParts pool text → IsPoolText pool text
pool_is pool text s =
    let e = s.second.1.0 in
    let length-is : length pool ≡ s.value = constants_length s.value pool s.back s.second.0 e in
    let constants_fit : AreConstants true (constants.Unusable ∷ e.others) = (refl, e.fit) in
    let P : List Constant → Type 0 = λ z. AreConstants true z in
    let number-is : u2 s.value ≡ u2 (length pool) = ap (λ (n : ℕ). u2 n) (sym length-is) in
    record {
      fits = record {
        count = omega (arith, length-is, s.first.0);
        each = subst P (sym e.is) constants_fit;
        references =
            s.second.1.1;
      };
      spelled = s.parts ∙ append_equal s.front (u2 (length pool)) s.back (flat_map constant_text pool) (s.first.1
          ∙ number-is) (constants_text_is s.value pool s.back e);
    }

pool_again : (pool : List Constant) (text : List ℕ) → IsPoolText pool text → PoolParts pool text
pool_again [] text p = let e = p.fits.each in absurd cc
pool_again (c ∷ cs) text p =
    let first : c ≡ constants.Unusable = p.fits.each.0 in
    let after : constants_text (c ∷ cs) ≡ constants_text cs =
    ap (λ (z : Constant). constant_text z ++ constants_text cs) first in
    let spelled : IsConstantsText (length (c ∷ cs)) (c ∷ cs) (constants_text (c ∷ cs)) =
    record {
      others = cs;
      is = ap (λ (z : Constant). z ∷ cs) first;
      number = omega arith;
      fit = p.fits.each.1;
      spelled =
          after;
    } in
    record {
      value = length (c ∷ cs);
      front = u2 (length (c ∷ cs));
      back = constants_text (c ∷ cs);
      first = (p.fits.count, refl);
      second = (omega arith, (spelled, p.fits.references));
      parts = p.spelled;
    }

pub pool_lawful : (total : ℕ) → Lawful (pool_at total) IsPoolText (PoolFails total)
unfolding pool_at
pool_lawful total =
    restated
    (then_lawful (number_at w16 total) (λ bytes count. cond (eqb count.0 0) (Err (faults.Index (offset total bytes)))
    (checked_at count.0 total count.1)) (number_lawful w16 wide16 total)
    (λ bytes count text s. guarded_lawful (eqb count 0) (0 < count) (faults.Index (offset total bytes))
    (checked_at count total)
    (some_refuses count) (λ some. counted_lawful count total some s.0)))
    pool_is pool_again
