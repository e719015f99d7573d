-- The reader of a class file is lawful: what it takes are texts, and what it refuses has a first fault.
use Rattle.std.proofs.Common.{◌≡◌, ℕ, ◌<◌, ◌^◌, ◌⊎◌, eqb, List, ◌++◌, length, Result, Ok, Err, refl, sym, ap, subst}
use Rattle.std.proofs.Common.{◌∙◌, arith, inl, inr}
use Rattle.std.specs.Bool.{Decides}
use Rattle.std.specs.Int.{w16, w32}
use Rattle.std.proofs.lemmas.Bool.Decides.{Decides-eqb}
use Rattle.std.proofs.lemmas.Bool.{and_parts, and_from}
use Rattle.classfile.specs.declared.fault.ClassFault.{ClassFault}
use Rattle.classfile.specs.declared.fault.ClassFault.TheVariants as faults
use Rattle.classfile.specs.declared.constant.Constant.{Constant}
use Rattle.classfile.specs.declared.header.Header.{Header}
use Rattle.classfile.specs.declared.attribute.Owner.TheVariants as owners
use Rattle.classfile.specs.declared.member.MemberKind.TheVariants as kinds
use Rattle.classfile.specs.reading.Numbers.{◌>>=◌, number_at}
use Rattle.classfile.specs.Gives.{Fails}
use Rattle.classfile.specs.Faults.{Either, Number, CutNumber, TwoFail, IsBytes}
use Rattle.classfile.specs.reading.LookupTests.{is_class, is_class_or_none, is_plain_class}
use Rattle.classfile.specs.Spelling.{u2, u4, constant_text}
use Rattle.classfile.specs.Text.{table_text, attribute_text, member_text, class_text}
use Rattle.classfile.specs.ClassFile.{ClassFile}
use Rattle.classfile.specs.reading.Class.{class_file_of}
use Rattle.classfile.specs.Pool.{IsIndexOf, IsClass, IsClassNamed}
use Rattle.classfile.specs.Class.{IsNoArray, IsClassText}
use Rattle.classfile.specs.reading.Pool.{pool_at}
use Rattle.classfile.specs.reading.Members.{attributes_at, members_at}
use Rattle.classfile.specs.reading.Class.{this_class_at, super_class_at, interface_at, interfaces_at, header_of}
use Rattle.classfile.specs.reading.Class.{header_at, magic_at}
use Rattle.classfile.specs.reading.Class.{pair_at, is_version, version_at, class_body_at, class_at, class_of}
use Rattle.classfile.specs.FirstFault.{IsItem, IsTableText, Anything, IsMagic, MagicFails, TwoNumbers, IsSupported}
use Rattle.classfile.specs.FirstFault.{IsVersion, VersionFails}
use Rattle.classfile.specs.FirstFault.{IsPoolText, IndexOf, IndexFails, IsThisClass, IsSuperClass, header_text}
use Rattle.classfile.specs.FirstFault.{IsHeader}
use Rattle.classfile.specs.FirstFault.{InterfacesFail, HeaderFails, IsAttributes, IsMembers, MembersFail}
use Rattle.classfile.specs.FirstFault.{AttributesFail, PartsFail}
use Rattle.classfile.specs.FirstFault.{FirstFault, IsFirstFault, ExactlyOne}
use Rattle.classfile.proofs.Lawful.{Lawful, Both, Mapped, wide16, wide32, number_lawful, map_lawful}
use Rattle.classfile.proofs.RuleLawful.{append_equal, ruled_lawful, whole_takes, whole_again, whole_blames}
use Rattle.classfile.proofs.RuleLawful.{whole_blamed}
use Rattle.classfile.proofs.Lawful.{restated, then_lawful}
use Rattle.classfile.proofs.TableLawful.{table_lawful}
use Rattle.classfile.proofs.LookupTestsLemmas.{class_decides, class_or_none_decides, plain_class_decides, within}
use Rattle.classfile.proofs.PoolLawful.{pool_lawful}
use Rattle.classfile.proofs.CodeLawful.{index_lawful, super_below}
use Rattle.classfile.proofs.AttributeLawful.{attributes_lawful}
use Rattle.classfile.proofs.MemberLawful.{members_lawful}

-- ---- magic and version

magic_lawful : (total : ℕ) → Lawful (magic_at total) IsMagic (MagicFails total)
unfolding magic_at
magic_lawful total = ruled_lawful (number_at w32 total) (λ n. eqb n 3405691582) (λ n. n ≡ 3405691582)
    (λ bytes n. faults.Magic)
    (λ n. Decides-eqb n 3405691582) (number_lawful w32 wide32 total)

abbrev Two : ℕ × ℕ → List ℕ → Type 0
Two = Both (Number w16) (λ minor. Mapped (λ major. (minor, major)) (Number w16))

two_are : (v : ℕ × ℕ) (text : List ℕ) → Two v text → TwoNumbers v text
two_are v text s =
    let it : TwoNumbers (s.value, s.second.value) text = (
      s.first.0,
      s.second.spelled.0,
      s.parts
          ∙ append_equal s.front (u2 s.value) s.back (u2 s.second.value) s.first.1 s.second.spelled.1,
    ) in
    let P : ℕ × ℕ → Type 0 = λ z. TwoNumbers z text in subst P (sym s.second.is) it

two_again : (v : ℕ × ℕ) (text : List ℕ) → TwoNumbers v text → Two v text
two_again v text s = record {
  value = v.0;
  front = u2 v.0;
  back = u2 v.1;
  first = (s.0, refl);
  second =
      record { value = v.1; spelled = (s.1, refl); is = refl };
  parts = s.2;
}

two_lawful : (total : ℕ) → Lawful (pair_at total) TwoNumbers (TwoFail w16 w16 total)
two_lawful total =
    restated
    (then_lawful (number_at w16 total)
    (λ bytes minor. number_at w16 total minor.1 >>= λ major. Ok ((minor.0, major.0), major.1))
    (number_lawful w16 wide16 total)
    (λ bytes minor text s. map_lawful (λ major. (minor, major)) (number_at w16 total) (Number w16) (CutNumber w16 total)
    (number_lawful w16 wide16 total)))
    two_are two_again

supported_decides : (v : ℕ × ℕ) → Decides (is_version v) (IsSupported v)
supported_decides v = (
  λ e. let b = and_parts (eqb v.0 0) (eqb v.1 52) e in ((Decides-eqb v.0 0).0 b.0, (Decides-eqb v.1 52).0 b.1),
  λ h. and_from (eqb v.0 0) (eqb v.1 52) ((Decides-eqb v.0 0).1 h.0) ((Decides-eqb v.1 52).1 h.1),
)

version_lawful : (total : ℕ) → Lawful (version_at total) IsVersion (VersionFails total)
unfolding version_at
version_lawful total = ruled_lawful (pair_at total) is_version IsSupported (λ bytes v. faults.Version v.1 v.0)
    supported_decides
    (two_lawful total)

-- ---- flags, name and parents

abbrev InterfaceTable : List Constant → List ℕ → List ℕ → Type 0
InterfaceTable pool = IsTableText u2 (IsIndexOf IsClass pool) Anything

interface_lawful : (pool : List Constant) → length pool < 2 ^ 16 → (total : ℕ) (earlier : List ℕ)
    → Lawful (interface_at pool total) (IsItem u2 (IsIndexOf IsClass pool) Anything earlier)
    (IndexFails (IsIndexOf IsClass pool) total)
interface_lawful pool small total earlier =
    restated (index_lawful (is_class pool) (IsIndexOf IsClass pool) total (class_decides pool))
    (λ index text s. record { fits = s.1; pairs = λ k d lt. tt; spelled = s.0.1 })
    (λ index text s. ((let lt = within IsClass pool index s.fits in omega (arith, lt, small), s.spelled), s.fits))

interfaces_lawful : (pool : List Constant) → length pool < 2 ^ 16 → (total : ℕ)
    → Lawful (interfaces_at pool total) (InterfaceTable pool) (InterfacesFail pool total)
unfolding interfaces_at
interfaces_lawful pool small total =
    table_lawful u2 (IsIndexOf IsClass pool) Anything (λ earlier. IndexFails (IsIndexOf IsClass pool) total)
    (λ earlier. interface_at pool total) total (interface_lawful pool small total)

abbrev HeaderParts : List Constant → Header → List ℕ → Type 0
HeaderParts pool =
    Both (Number w16) (λ flags. Both (IndexOf (IsThisClass pool)) (λ this. Both (IndexOf (IsSuperClass pool))
    (λ super. Mapped (λ interfaces. header_of flags this super interfaces) (InterfaceTable pool))))

header_is : (pool : List Constant) (d : Header) (text : List ℕ) → HeaderParts pool d text
    → IsHeader pool d text
header_is pool d text s =
    let this = s.second in
    let super = this.second in
    let interfaces = super.second in
    let made = header_of s.value this.value super.value interfaces.value in
    let one = super.parts ∙ append_equal super.front (u2 super.value) super.back (table_text u2 interfaces.value)
    super.first.0.1
    interfaces.spelled.spelled in
    let two = this.parts
    ∙ append_equal this.front (u2 this.value) this.back (u2 super.value ++ table_text u2 interfaces.value)
    this.first.0.1 one
    in
    let text-is : text ≡ header_text made = s.parts
    ∙ append_equal s.front (u2 s.value) s.back (u2 this.value ++ (u2 super.value ++ table_text u2 interfaces.value))
    s.first.1 two in
    let it : IsHeader pool made text = record {
      access_flags = s.first.0;
      this_class = this.first.1;
      super_class = super.first.1;
      interface_count = interfaces.spelled.count;
      interfaces = interfaces.spelled.each;
      spelled = text-is;
    } in
    let P : Header → Type 0 = λ z. IsHeader pool z text in subst P (sym interfaces.is) it

header_again : (pool : List Constant) → length pool < 2 ^ 16 → (d : Header) (text : List ℕ)
    → IsHeader pool d text
    → HeaderParts pool d text
header_again pool small d text s =
    let last = table_text u2 d.interfaces in
    let this_below = within (IsClassNamed IsNoArray pool) pool d.this_class s.this_class in
    record {
      value = d.access_flags;
      front = u2 d.access_flags;
      back = u2 d.this_class ++ (u2 d.super_class ++ last);
      first = (s.access_flags, refl);
      second = record {
        value = d.this_class;
        front = u2 d.this_class;
        back = u2 d.super_class ++ last;
        first = ((omega (arith, this_below, small), refl), s.this_class);
        second = record {
          value = d.super_class;
          front = u2 d.super_class;
          back = last;
          first = ((super_below pool d.super_class small s.super_class, refl), s.super_class);
          second = record {
            value = d.interfaces;
            spelled = record {
              count = s.interface_count;
              each = s.interfaces;
              pairs =
                  λ i j e lt end'. tt;
              spelled = refl;
            };
            is = refl;
          };
          parts = refl;
        };
        parts = refl;
      };
      parts = s.spelled;
    }

header_lawful : (pool : List Constant) → length pool < 2 ^ 16 → (total : ℕ)
    → Lawful (header_at pool total) (IsHeader pool) (HeaderFails pool total)
unfolding header_at
header_lawful pool small total =
    restated
    (then_lawful (number_at w16 total)
    (λ bytes flags. this_class_at pool total flags.1 >>= λ this. super_class_at pool total this.1 >>=
    λ super. interfaces_at pool total super.1 >>= λ interfaces. Ok (
      header_of flags.0 this.0 super.0 interfaces.0,
      interfaces.1,
    ))
    (number_lawful w16 wide16 total)
    (λ bytes flags text s. then_lawful (this_class_at pool total)
    (λ bytes this. super_class_at pool total this.1 >>= λ super. interfaces_at
    pool total super.1 >>= λ interfaces. Ok (header_of flags this.0 super.0 interfaces.0, interfaces.1))
    (index_lawful (is_plain_class pool) (IsThisClass pool) total (plain_class_decides pool))
    (λ bytes this text s. then_lawful (super_class_at pool total)
    (λ bytes super. interfaces_at pool total super.1 >>= λ interfaces. Ok
    (header_of flags this super.0 interfaces.0, interfaces.1))
    (index_lawful (is_class_or_none pool) (IsSuperClass pool) total
    (class_or_none_decides pool))
    (λ bytes super text s. map_lawful (λ interfaces. header_of flags this super interfaces)
    (interfaces_at pool total)
    (InterfaceTable pool) (InterfacesFail pool total) (interfaces_lawful pool small total)))))
    (header_is pool) (header_again pool small)

-- ---- the whole

abbrev BodyParts : List Constant → Header → ClassFile → List ℕ → Type 0
BodyParts pool d = Both (IsMembers kinds.Field pool) (λ fields. Both (IsMembers kinds.Method pool)
    (λ methods. Mapped (λ attributes. class_file_of pool d fields methods attributes) (IsAttributes pool owners.Class)))

abbrev BodyFails : List Constant → ℕ → List ℕ → ClassFault → Type 0
BodyFails pool total = Either (IsMembers kinds.Field pool) (MembersFail kinds.Field pool total)
    (λ fields. Either (IsMembers kinds.Method pool) (MembersFail kinds.Method pool total)
    (λ methods. AttributesFail pool owners.Class total))

body_lawful : (pool : List Constant) (d : Header) → length pool < 2 ^ 16 → (total : ℕ)
    → Lawful (class_body_at pool d total) (BodyParts pool d) (BodyFails pool total)
unfolding class_body_at
body_lawful pool d small total =
    then_lawful (members_at kinds.Field pool total)
    (λ bytes fields. members_at kinds.Method pool total fields.1 >>= λ methods.
    attributes_at pool owners.Class total methods.1 >>= λ attributes. Ok
    (class_file_of pool d fields.0 methods.0 attributes.0, attributes.1)) (members_lawful kinds.Field pool small total)
    (λ bytes fields text s. then_lawful (members_at kinds.Method pool total)
    (λ bytes methods. attributes_at pool owners.Class total methods.1 >>= λ attributes. Ok
    (class_file_of pool d fields methods.0 attributes.0, attributes.1)) (members_lawful kinds.Method pool small total)
    (λ bytes methods text s. map_lawful (λ attributes. class_file_of pool d fields methods attributes)
    (attributes_at pool owners.Class total) (IsAttributes pool owners.Class) (AttributesFail pool owners.Class total)
    (attributes_lawful pool owners.Class small total)))

abbrev ClassParts : ClassFile → List ℕ → Type 0
ClassParts =
    Both IsMagic
    (λ magic. Both IsVersion (λ version. Both IsPoolText (λ pool. Both (IsHeader pool) (λ d. BodyParts pool d))))

version_text : (v : ℕ × ℕ) (text : List ℕ) → IsVersion v text → text ≡ u2 0 ++ u2 52
version_text v text s = s.0.2 ∙ append_equal (u2 v.0) (u2 0) (u2 v.1) (u2 52) (ap (λ (n : ℕ). u2 n) s.1.0)
    (ap (λ (n : ℕ). u2 n) s.1.1)

class_is : (class : ClassFile) (text : List ℕ) → ClassParts class text → IsClassText text class
class_is class text s =
    let version = s.second in
    let pool = version.second in
    let d = pool.second in
    let fields = d.second in
    let methods = fields.second in
    let attributes = methods.second in
    let constants = pool.value in
    let made = class_file_of constants d.value fields.value methods.value attributes.value in
    let magic_text : s.front ≡ u4 3405691582 = s.first.0.1 ∙ ap (λ (n : ℕ). u4 n) s.first.1 in
    let one = methods.parts ∙ append_equal methods.front (table_text member_text methods.value) methods.back
    (table_text attribute_text attributes.value) methods.first.spelled attributes.spelled.spelled in
    let two = fields.parts ∙ append_equal fields.front (table_text member_text fields.value) fields.back
    (table_text member_text methods.value ++ table_text attribute_text attributes.value) fields.first.spelled one in
    let three = d.parts ∙ append_equal d.front (header_text d.value) d.back
    (table_text member_text fields.value
    ++ (table_text member_text methods.value ++ table_text attribute_text attributes.value))
    d.first.spelled two in
    let four = pool.parts ∙ append_equal pool.front (table_text constant_text constants) pool.back
    (header_text d.value
    ++ (table_text member_text fields.value ++ (table_text member_text methods.value ++ table_text
    attribute_text attributes.value))) pool.first.spelled three in
    let five = version.parts
    ∙ append_equal version.front (u2 0 ++ u2 52) version.back
    (table_text constant_text
    constants ++ (header_text
    d.value
    ++ (table_text member_text fields.value ++ (table_text member_text methods.value ++ table_text attribute_text
    attributes.value)))) (version_text version.value version.front version.first) four in
    let text-is : text ≡ class_text made = s.parts
    ∙ append_equal s.front (u4 3405691582) s.back
    ((u2 0 ++ u2 52) ++ (table_text constant_text
    constants ++ (header_text d.value ++ (table_text member_text
    fields.value ++ (table_text member_text methods.value ++ table_text attribute_text attributes.value))))) magic_text
    five in
    let it : IsClassText text made = record {
      spelled = text-is;
      fits = record {
        constants = pool.first.fits;
        access_flags = d.first.access_flags;
        this_class = d.first.this_class;
        super_class = d.first.super_class;
        interface_count = d.first.interface_count;
        interfaces = d.first.interfaces;
        field_count = fields.first.count;
        fields = fields.first.each;
        distinct_fields = fields.first.pairs;
        method_count = methods.first.count;
        methods = methods.first.each;
        distinct_methods = methods.first.pairs;
        attribute_count = attributes.spelled.count;
        attributes = attributes.spelled.each;
      };
    } in
    let P : ClassFile → Type 0 = λ z. IsClassText text z in subst P (sym attributes.is) it

class_again : (class : ClassFile) (text : List ℕ) → IsClassText text class → ClassParts class text
class_again class text s =
    let f = s.fits in
    let pool = class.constants in
    let d = header_of class.access_flags class.this_class class.super_class class.interfaces in
    let last = table_text attribute_text class.attributes in
    let four = table_text member_text class.methods ++ last in
    let three = table_text member_text class.fields ++ four in
    let two = header_text d ++ three in
    let one = table_text constant_text pool ++ two in
    record {
      value = 3405691582;
      front = u4 3405691582;
      back = (u2 0 ++ u2 52) ++ one;
      first = ((omega arith, refl), refl);
      second = record {
        value = (0, 52);
        front = u2 0 ++ u2 52;
        back = one;
        first = ((omega arith, omega arith, refl), (refl, refl));
        second = record {
          value = pool;
          front = table_text constant_text pool;
          back = two;
          first = record { fits = f.constants; spelled = refl };
          second = record {
            value = d;
            front = header_text d;
            back = three;
            first = record {
              access_flags = f.access_flags;
              this_class = f.this_class;
              super_class = f.super_class;
              interface_count =
                  f.interface_count;
              interfaces = f.interfaces;
              spelled = refl;
            };
            second = record {
              value = class.fields;
              front = table_text member_text class.fields;
              back = four;
              first = record { count = f.field_count; each = f.fields; pairs = f.distinct_fields; spelled = refl };
              second = record {
                value = class.methods;
                front = table_text member_text class.methods;
                back = last;
                first = record { count = f.method_count; each = f.methods; pairs = f.distinct_methods; spelled = refl };
                second = record {
                  value = class.attributes;
                  spelled =
                      record {
                        count = f.attribute_count;
                        each = f.attributes;
                        pairs = λ i j e lt end' hit. refl;
                        spelled = refl;
                      };
                  is = refl;
                };
                parts = refl;
              };
              parts = refl;
            };
            parts = refl;
          };
          parts = refl;
        };
        parts = refl;
      };
      parts = s.spelled;
    }

class_lawful : (total : ℕ) → Lawful (class_at total) (λ class text. IsClassText text class) (PartsFail total)
unfolding class_at
class_lawful total =
    restated
    (then_lawful (magic_at total)
    (λ bytes magic. version_at total magic.1 >>= λ version. pool_at total version.1 >>= λ pool. header_at
    pool.0 total pool.1 >>= λ header. class_body_at pool.0 header.0 total header.1) (magic_lawful total)
    (λ bytes magic text s. then_lawful (version_at total)
    (λ bytes version. pool_at total version.1 >>= λ pool. header_at pool.0 total
    pool.1 >>= λ header. class_body_at pool.0 header.0 total header.1) (version_lawful total)
    (λ bytes version text s. then_lawful (pool_at total)
    (λ bytes pool. header_at pool.0 total pool.1 >>= λ header. class_body_at pool.0
    header.0 total header.1) (pool_lawful total)
    (λ bytes pool text p. then_lawful (header_at pool total)
    (λ bytes header. class_body_at pool header.0 total header.1)
    (header_lawful pool p.fits.count total)
    (λ bytes header text s. body_lawful pool header p.fits.count total)))))
    class_is class_again

-- What is read is the text of the class that is answered.
pub class_is_text : (bytes : List ℕ) (class : ClassFile) → IsBytes bytes → class_of bytes ≡ Ok class
    → IsClassText bytes class
unfolding class_of
class_is_text bytes class fits e = whole_takes (class_at (length bytes)) (class_lawful (length bytes))
    (length bytes) bytes class fits e

-- A class's text is read as that class.
pub text_is_class : (bytes : List ℕ) (class : ClassFile) → IsClassText bytes class → class_of bytes ≡ Ok class
unfolding class_of
text_is_class bytes class s = whole_again (class_at (length bytes)) (class_lawful (length bytes))
    (length bytes) bytes class s

-- What is refused is refused for its first fault.
pub fault_is_first : (bytes : List ℕ) (fault : ClassFault) → IsBytes bytes → class_of bytes ≡ Err fault
    → FirstFault bytes fault
unfolding class_of
fault_is_first bytes fault fits e = whole_blames (class_at (length bytes)) (class_lawful (length bytes))
    (length bytes) bytes fault fits e

-- What has a first fault is refused for it.
pub first_is_fault : (bytes : List ℕ) (fault : ClassFault) → IsBytes bytes → FirstFault bytes fault
    → class_of bytes ≡ Err fault
unfolding class_of
first_is_fault bytes fault fits h = whole_blamed (class_at (length bytes)) (class_lawful (length bytes))
    (length bytes) bytes fault fits h

read_or_not : (bytes : List ℕ) → IsBytes bytes → (r : Result ClassFile ClassFault) → class_of bytes ≡ r
    → ((class : ClassFile) × IsClassText bytes class) ⊎ ((fault : ClassFault) × FirstFault bytes fault)
read_or_not bytes fits (Ok class) e = inl (class, class_is_text bytes class fits e)
read_or_not bytes fits (Err fault) e = inr (fault, fault_is_first bytes fault fits e)

pub exactly_one : (bytes : List ℕ) → IsBytes bytes → ExactlyOne bytes
exactly_one bytes fits = record {
  some = read_or_not bytes fits (class_of bytes) refl;
  not_both = λ class fault s h. let x = text_is_class bytes class s in let y = first_is_fault bytes fault fits h in cc;
  one_class = λ a b p q. let x = text_is_class bytes a p in let y = text_is_class bytes b q in cc;
  one_fault = λ f g p q. let x = first_is_fault bytes f fits p in let y = first_is_fault bytes g fits q in cc;
}

-- ---- what a reader answers, unless memory runs out

-- a class's text isn't refused
pub text_unless_memory : (bytes : List ℕ) (class : ClassFile) (fault : ClassFault) → Fails fault (class_of bytes)
    → IsClassText bytes class
    → Fails {Y = ClassFile} fault (Ok class)
text_unless_memory bytes class fault fails text =
    let P : Result ClassFile ClassFault → Type 0 = λ r. Fails fault r in subst P (text_is_class bytes class text) fails

-- what is refused has that first fault
pub refused_is_first : (bytes : List ℕ) (fault : ClassFault) → IsBytes bytes → Fails fault (class_of bytes)
    → IsFirstFault bytes fault
refused_is_first bytes faults.Memory fits fails = tt
refused_is_first bytes fault fits fails = fault_is_first bytes fault fits fails

-- what has a first fault is refused for it
pub first_unless_memory : (bytes : List ℕ) (fault answered : ClassFault) → IsBytes bytes
    → Fails answered (class_of bytes)
    → FirstFault bytes fault → Fails {Y = ClassFile} answered (Err fault)
first_unless_memory bytes fault answered fits fails first =
    let P : Result ClassFile ClassFault → Type 0 = λ r. Fails answered r in
    subst P (first_is_fault bytes fault fits first) fails
