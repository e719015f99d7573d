-- Each constant is lawful.
use Rattle.std.proofs.Common.{◌≡◌, ℕ, Bool, true, false, cond, eqb, List, [], ◌++◌, length, Option, Some, None, Result}
use Rattle.std.proofs.Common.{Ok, Err, refl}
use Rattle.std.proofs.Common.{sym, ap, subst, ◌∙◌, ◌<◌, ◌^◌, arith, inl, inr}
use Rattle.std.specs.Bool.{Decides}
use Rattle.std.specs.Int.{Width, w8, w16, w32, to_be_bytes}
use Rattle.std.proofs.lemmas.Bool.{eqb-true}
use Rattle.std.proofs.lemmas.List.{append-nil}
use Rattle.classfile.specs.declared.fault.ClassFault.{ClassFault}
use Rattle.classfile.specs.declared.fault.ClassFault.TheVariants as faults
use Rattle.classfile.specs.declared.constant.Constant.{Constant}
use Rattle.classfile.specs.declared.constant.Constant.TheVariants as constants
use Rattle.classfile.specs.declared.constant.Kind.{Kind}
use Rattle.classfile.specs.declared.constant.Kind.TheVariants as kinds
use Rattle.classfile.specs.reading.Numbers.{◌>>=◌, number_at, run_at}
use Rattle.classfile.specs.reading.Modified.{is_modified}
use Rattle.classfile.specs.Units.{IsModifiedUtf8}
use Rattle.classfile.specs.Constants.{kind_of_tag}
use Rattle.classfile.specs.reading.Constants.{one_at, two_at, utf8_at, constant_body_at, constant_body_of, tagged_at}
use Rattle.classfile.specs.Spelling.{u1, u2, u4, constant_text, Fits}
use Rattle.classfile.specs.Faults.{Number, Run, CutNumber, TwoFail, Utf8Fails, BodyFails, TaggedFails, IsTagged}
use Rattle.classfile.specs.Faults.{IsBytes, limit_of}
use Rattle.classfile.proofs.Lawful.{ok_is, Lawful, Both, Mapped, IsWide, wide8, wide16, wide32, number_lawful}
use Rattle.classfile.proofs.Lawful.{run_lawful, then_lawful}
use Rattle.classfile.proofs.Lawful.{map_lawful, restated}
use Rattle.classfile.proofs.UnitsLemmas.{modified_is, modified_passes}
use Rattle.classfile.proofs.BoolLemmas.{cond_cases}

abbrev One : Width → (ℕ → Constant) → Constant → List ℕ → Type 0
One w make = Mapped make (Number w)

abbrev Two : Width → Width → (ℕ → ℕ → Constant) → Constant → List ℕ → Type 0
Two v w make = Both (Number v) (λ m. Mapped (make m) (Number w))

one_lawful : (w : Width) (wide : IsWide w) (make : ℕ → Constant) (total : ℕ)
    → Lawful (one_at w make total) (One w make) (CutNumber w total)
one_lawful w wide make total = map_lawful make (number_at w total) (Number w) (CutNumber w total)
    (number_lawful w wide total)

two_lawful : (v w : Width) (wide_v : IsWide v) (wide_w : IsWide w) (make : ℕ → ℕ → Constant) (total : ℕ)
    → Lawful (two_at v w make total) (Two v w make) (TwoFail v w total)
two_lawful v w wide_v wide_w make total =
    then_lawful (number_at v total) (λ bytes m. one_at w (make m.0) total m.1) (number_lawful v wide_v total)
    (λ bytes m text s. one_lawful w wide_w (make m) total)

abbrev IsUtf8Body : Constant → List ℕ → Type 0
IsUtf8Body =
    Both (Number w16)
    (λ count. Both (Run count) (λ run c text. (is_modified run ≡ true) × (c ≡ constants.Utf8 run) × (text ≡ [])))

-- a test of a value that is known already
abbrev choice : Bool → List ℕ → ℕ → List ℕ → Result (Constant × List ℕ) ClassFault
choice b run index bytes = cond b (Ok (constants.Utf8 run, bytes)) (Err (faults.Utf8 index))

choice_lawful : (b : Bool) (run : List ℕ) (index : ℕ) → Decides b (IsModifiedUtf8 run)
    → Lawful (choice b run index) (λ c text. (b ≡ true) × (c ≡ constants.Utf8 run) × (text ≡ []))
    (λ rest f. (¬ IsModifiedUtf8 run) × (f ≡ faults.Utf8 index))
choice_lawful true run index decides = record {
  takes = λ bytes x rest fits e.
      let p = ok_is (constants.Utf8 run, bytes) (x, rest) e in
      let rest-is : bytes ≡ rest = ap (λ (q : Constant × List ℕ). q.1) p in
      record {
        text = [];
        spelled = (refl, sym (ap (λ (q : Constant × List ℕ). q.0) p), refl);
        parts = rest-is;
        rest_fits =
            (let P : List ℕ → Type 0 = λ z. IsBytes z in subst P rest-is fits);
      };
  again = λ x text rest s. rw (s.1, s.2) refl;
  blames = λ bytes f fits e. absurd cc;
  blamed = λ bytes f fits h. absurd (h.0 (decides.0 refl));
}
choice_lawful false run index decides = record {
  takes = λ bytes x rest fits e. absurd cc;
  again = λ x text rest s. absurd cc;
  blames = λ bytes f fits e. (λ h. let passes = decides.1 h in cc, cc);
  blamed = λ bytes f fits h. rw h.1 refl;
}

utf8_lawful : (total index : ℕ) → Lawful (utf8_at total index) IsUtf8Body (Utf8Fails total index)
unfolding utf8_at
utf8_lawful total index =
    then_lawful (number_at w16 total)
    (λ bytes count. run_at count.0 total count.1 >>= λ run. choice (is_modified run.0) run.0 index run.1)
    (number_lawful w16 wide16 total)
    (λ bytes count text s. then_lawful (run_at count total) (λ bytes run. choice (is_modified run.0) run.0 index run.1)
    (run_lawful count total)
    (λ bytes run text s. choice_lawful (is_modified run) run index (modified_is run, modified_passes run)))

abbrev BodySpells : Option Kind → Constant → List ℕ → Type 0
BodySpells None c text = ⊥
BodySpells (Some kinds.Utf8) c text = IsUtf8Body c text
BodySpells (Some kinds.Integer) c text = One w32 constants.Integer c text
BodySpells (Some kinds.Float) c text = One w32 constants.Float c text
BodySpells (Some kinds.Long) c text = Two w32 w32 constants.Long c text
BodySpells (Some kinds.Double) c text = Two w32 w32 constants.Double c text
BodySpells (Some kinds.Class) c text = One w16 constants.Class c text
BodySpells (Some kinds.String) c text = One w16 constants.String c text
BodySpells (Some kinds.Fieldref) c text = Two w16 w16 constants.Fieldref c text
BodySpells (Some kinds.Methodref) c text = Two w16 w16 constants.Methodref c text
BodySpells (Some kinds.InterfaceMethodref) c text = Two w16 w16 constants.InterfaceMethodref c text
BodySpells (Some kinds.NameAndType) c text = Two w16 w16 constants.NameAndType c text
BodySpells (Some kinds.MethodHandle) c text = Two w8 w16 constants.MethodHandle c text
BodySpells (Some kinds.MethodType) c text = One w16 constants.MethodType c text
BodySpells (Some kinds.InvokeDynamic) c text = Two w16 w16 constants.InvokeDynamic c text

body_lawful : (kind : Option Kind) (total index : ℕ) → Lawful (constant_body_of kind total index) (BodySpells kind)
    (BodyFails kind total index)
unfolding constant_body_at
body_lawful None total index = record {
  takes = λ bytes x rest fits e. absurd cc;
  again = λ x text rest s. absurd s;
  blames =
      λ bytes f fits e. cc;
  blamed = λ bytes f fits h. rw h refl;
}
body_lawful (Some kinds.Utf8) total index = utf8_lawful total index
body_lawful (Some kinds.Integer) total index = one_lawful w32 wide32 constants.Integer total
body_lawful (Some kinds.Float) total index = one_lawful w32 wide32 constants.Float total
body_lawful (Some kinds.Long) total index = two_lawful w32 w32 wide32 wide32 constants.Long total
body_lawful (Some kinds.Double) total index = two_lawful w32 w32 wide32 wide32 constants.Double total
body_lawful (Some kinds.Class) total index = one_lawful w16 wide16 constants.Class total
body_lawful (Some kinds.String) total index = one_lawful w16 wide16 constants.String total
body_lawful (Some kinds.Fieldref) total index = two_lawful w16 w16 wide16 wide16 constants.Fieldref total
body_lawful (Some kinds.Methodref) total index = two_lawful w16 w16 wide16 wide16 constants.Methodref total
body_lawful (Some kinds.InterfaceMethodref) total index =
    two_lawful w16 w16 wide16 wide16 constants.InterfaceMethodref total
body_lawful (Some kinds.NameAndType) total index = two_lawful w16 w16 wide16 wide16 constants.NameAndType total
body_lawful (Some kinds.MethodHandle) total index = two_lawful w8 w16 wide8 wide16 constants.MethodHandle total
body_lawful (Some kinds.MethodType) total index = one_lawful w16 wide16 constants.MethodType total
body_lawful (Some kinds.InvokeDynamic) total index = two_lawful w16 w16 wide16 wide16 constants.InvokeDynamic total

abbrev tag_of : Kind → ℕ
tag_of kinds.Utf8 = 1
tag_of kinds.Integer = 3
tag_of kinds.Float = 4
tag_of kinds.Long = 5
tag_of kinds.Double = 6
tag_of kinds.Class = 7
tag_of kinds.String = 8
tag_of kinds.Fieldref = 9
tag_of kinds.Methodref = 10
tag_of kinds.InterfaceMethodref = 11
tag_of kinds.NameAndType = 12
tag_of kinds.MethodHandle = 15
tag_of kinds.MethodType = 16
tag_of kinds.InvokeDynamic = 18

kind_of_tag_cases : (n t : ℕ) (a : Kind) (rest : Option Kind) (k : Kind) → tag_of a ≡ t → (rest ≡ Some k → n ≡ tag_of k)
    → cond (eqb n t) (Some a) rest ≡ Some k → n ≡ tag_of k
kind_of_tag_cases n t a rest k is others e =
    elim (cond_cases (eqb n t) (Some a) rest (Some k) e) [
      | inl (hit, same) ↦ let q : a ≡ k = cc in eqb-true n t hit ∙ sym is ∙ ap tag_of q
      | inr (miss, same) ↦ others same
    ]

tag_is : (n : ℕ) (k : Kind) → kind_of_tag n ≡ Some k → n ≡ tag_of k
unfolding kind_of_tag
tag_is n k e =
    kind_of_tag_cases n 1 kinds.Utf8 _ k refl
    (kind_of_tag_cases n 3 kinds.Integer _ k refl
    (kind_of_tag_cases n 4 kinds.Float _ k refl
    (kind_of_tag_cases n 5 kinds.Long _ k refl
    (kind_of_tag_cases n 6 kinds.Double _ k refl
    (kind_of_tag_cases n 7 kinds.Class _ k refl
    (kind_of_tag_cases n 8 kinds.String _ k refl
    (kind_of_tag_cases n 9 kinds.Fieldref _ k refl
    (kind_of_tag_cases n 10 kinds.Methodref _ k refl
    (kind_of_tag_cases n 11 kinds.InterfaceMethodref _ k refl
    (kind_of_tag_cases n 12 kinds.NameAndType _ k refl (kind_of_tag_cases n 15 kinds.MethodHandle _ k refl
    (kind_of_tag_cases n 16 kinds.MethodType _ k refl
    (kind_of_tag_cases n 18 kinds.InvokeDynamic _ k refl (λ e. absurd cc)))))))))))))) e

abbrev Spelled : Constant → List ℕ → Type 0
Spelled = Both (Number w8) (λ tag. BodySpells (kind_of_tag tag))

one_text : (w : Width) (make : ℕ → Constant) (tag : ℕ) (c : Constant) (text : List ℕ) (s : One w make c text)
    → u1 tag ++ text ≡ u1 tag ++ to_be_bytes w s.value
one_text w make tag c text s = ap (λ (z : List ℕ). u1 tag ++ z) s.spelled.1

two_text : (v w : Width) (make : ℕ → ℕ → Constant) (tag : ℕ) (c : Constant) (text : List ℕ) (s : Two v w make c text)
    → u1 tag ++ text ≡ u1 tag ++ (to_be_bytes v s.value ++ to_be_bytes w s.second.value)
two_text v w make tag c text s = ap (λ (z : List ℕ). u1 tag ++ z)
    (s.parts ∙ rw (s.first.1, s.second.spelled.1) refl)

body_says : (k : Kind) (c : Constant) (text : List ℕ) → BodySpells (Some k) c text → Fits c
    × (u1 (tag_of k) ++ text ≡ constant_text c)
body_says kinds.Utf8 c text s =
    let count-is : s.value ≡ length s.second.value = sym s.second.first.0 in
    let run-is : s.back ≡ s.second.value = s.second.parts
    ∙ rw (s.second.first.1, s.second.second.2) (append-nil s.second.value) in
    rw s.second.second.1 (
      (rw s.second.first.0 s.first.0, modified_is s.second.value s.second.second.0),
      ap (λ (z : List ℕ). u1 1 ++ z)
          (s.parts ∙ rw (s.first.1, count-is, run-is) refl),
    )
body_says kinds.Integer c text s = rw s.is (s.spelled.0, one_text w32 constants.Integer 3 c text s)
body_says kinds.Float c text s = rw s.is (s.spelled.0, one_text w32 constants.Float 4 c text s)
body_says kinds.Long c text s =
    rw s.second.is ((s.first.0, s.second.spelled.0), two_text w32 w32 constants.Long 5 c text s)
body_says kinds.Double c text s =
    rw s.second.is ((s.first.0, s.second.spelled.0), two_text w32 w32 constants.Double 6 c text s)
body_says kinds.Class c text s = rw s.is (s.spelled.0, one_text w16 constants.Class 7 c text s)
body_says kinds.String c text s = rw s.is (s.spelled.0, one_text w16 constants.String 8 c text s)
body_says kinds.Fieldref c text s =
    rw s.second.is ((s.first.0, s.second.spelled.0), two_text w16 w16 constants.Fieldref 9 c text s)
body_says kinds.Methodref c text s =
    rw s.second.is ((s.first.0, s.second.spelled.0), two_text w16 w16 constants.Methodref 10 c text s)
body_says kinds.InterfaceMethodref c text s =
    rw s.second.is ((s.first.0, s.second.spelled.0), two_text w16 w16 constants.InterfaceMethodref 11 c text s)
body_says kinds.NameAndType c text s =
    rw s.second.is ((s.first.0, s.second.spelled.0), two_text w16 w16 constants.NameAndType 12 c text s)
body_says kinds.MethodHandle c text s =
    rw s.second.is ((s.first.0, s.second.spelled.0), two_text w8 w16 constants.MethodHandle 15 c text s)
body_says kinds.MethodType c text s = rw s.is (s.spelled.0, one_text w16 constants.MethodType 16 c text s)
body_says kinds.InvokeDynamic c text s =
    rw s.second.is ((s.first.0, s.second.spelled.0), two_text w16 w16 constants.InvokeDynamic 18 c text s)

tagged_by_kind : (c : Constant) (text : List ℕ) (tag : ℕ) (front back : List ℕ) (k : Option Kind) → kind_of_tag tag ≡ k
    → Number w8 tag front
    → BodySpells k c back → text ≡ front ++ back → IsTagged c text
tagged_by_kind c text tag front back None is first second parts = absurd second
tagged_by_kind c text tag front back (Some k) is first second parts =
    let says = body_says k c back second in
    (says.0, parts ∙ rw (first.1, tag_is tag k is) says.1)

tagged_by_body : (c : Constant) (text : List ℕ) → Spelled c text → IsTagged c text
tagged_by_body c text s = tagged_by_kind c text s.value s.front s.back (kind_of_tag s.value) refl s.first s.second
    s.parts

one_of : (w : Width) (make : ℕ → Constant) (a : ℕ) → a < limit_of w → One w make (make a) (to_be_bytes w a)
one_of w make a fits = record { value = a; spelled = (fits, refl); is = refl }

two_of : (v w : Width) (make : ℕ → ℕ → Constant) (a b : ℕ) → (a < limit_of v) × (b < limit_of w)
    → Two v w make (make a b) (to_be_bytes v a ++ to_be_bytes w b)
two_of v w make a b fits = record {
  value = a;
  front = to_be_bytes v a;
  back = to_be_bytes w b;
  first = (fits.0, refl);
  second = one_of w (make a) b fits.1;
  parts = refl;
}

utf8_of : (run : List ℕ) → (length run < 2 ^ 16) × IsModifiedUtf8 run
    → IsUtf8Body (constants.Utf8 run) (u2 (length run) ++ run)
utf8_of run fits = record {
  value = length run;
  front = u2 (length run);
  back = run;
  first = (fits.0, refl);
  second =
      record {
        value = run;
        front = run;
        back = [];
        first = (refl, refl);
        second = (modified_passes run fits.1, refl, refl);
        parts = sym (append-nil run);
      };
  parts = refl;
}

-- a tag and what follows it
spelled_of : (tag : ℕ) (k : Kind) (c : Constant) (back text : List ℕ) → tag < 2 ^ 8 → kind_of_tag tag ≡ Some k
    → BodySpells (Some k) c back → text ≡ u1 tag ++ back → Spelled c text
spelled_of tag k c back text fits is body parts = record {
  value = tag;
  front = u1 tag;
  back = back;
  first = (fits, refl);
  second = let P : Option Kind → Type 0 = λ z. BodySpells z c back in subst P (sym is) body;
  parts = parts;
}

body_of_tagged : (c : Constant) (text : List ℕ) → IsTagged c text → Spelled c text
unfolding kind_of_tag
body_of_tagged constants.Unusable text s = absurd s.0
body_of_tagged (constants.Utf8 run) text s =
    spelled_of 1 kinds.Utf8 _ _ text (omega arith) refl (utf8_of run s.0) s.1
body_of_tagged (constants.Integer a) text s =
    spelled_of 3 kinds.Integer _ _ text (omega arith) refl (one_of w32 constants.Integer a s.0) s.1
body_of_tagged (constants.Float a) text s =
    spelled_of 4 kinds.Float _ _ text (omega arith) refl (one_of w32 constants.Float a s.0) s.1
body_of_tagged (constants.Long a b) text s =
    spelled_of 5 kinds.Long _ _ text (omega arith) refl (two_of w32 w32 constants.Long a b s.0) s.1
body_of_tagged (constants.Double a b) text s =
    spelled_of 6 kinds.Double _ _ text (omega arith) refl (two_of w32 w32 constants.Double a b s.0) s.1
body_of_tagged (constants.Class a) text s =
    spelled_of 7 kinds.Class _ _ text (omega arith) refl (one_of w16 constants.Class a s.0) s.1
body_of_tagged (constants.String a) text s =
    spelled_of 8 kinds.String _ _ text (omega arith) refl (one_of w16 constants.String a s.0) s.1
body_of_tagged (constants.Fieldref a b) text s =
    spelled_of 9 kinds.Fieldref _ _ text (omega arith) refl (two_of w16 w16 constants.Fieldref a b s.0) s.1
body_of_tagged (constants.Methodref a b) text s =
    spelled_of 10 kinds.Methodref _ _ text (omega arith) refl (two_of w16 w16 constants.Methodref a b s.0) s.1
body_of_tagged (constants.InterfaceMethodref a b) text s =
    spelled_of 11 kinds.InterfaceMethodref _ _ text (omega arith) refl
    (two_of w16 w16 constants.InterfaceMethodref a b s.0) s.1
body_of_tagged (constants.NameAndType a b) text s =
    spelled_of 12 kinds.NameAndType _ _ text (omega arith) refl (two_of w16 w16 constants.NameAndType a b s.0) s.1
body_of_tagged (constants.MethodHandle a b) text s =
    spelled_of 15 kinds.MethodHandle _ _ text (omega arith) refl (two_of w8 w16 constants.MethodHandle a b s.0) s.1
body_of_tagged (constants.MethodType a) text s =
    spelled_of 16 kinds.MethodType _ _ text (omega arith) refl (one_of w16 constants.MethodType a s.0) s.1
body_of_tagged (constants.InvokeDynamic a b) text s =
    spelled_of 18 kinds.InvokeDynamic _ _ text (omega arith) refl (two_of w16 w16 constants.InvokeDynamic a b s.0) s.1

pub tagged_lawful : (total index : ℕ) → Lawful (tagged_at total index) IsTagged (TaggedFails total index)
unfolding tagged_at
tagged_lawful total index =
    restated {S = Spelled}
    (then_lawful (number_at w8 total) (λ bytes tag. constant_body_of (kind_of_tag tag.0) total index tag.1)
    (number_lawful w8 wide8 total) (λ bytes tag text s. body_lawful (kind_of_tag tag) total index))
    tagged_by_body body_of_tagged
