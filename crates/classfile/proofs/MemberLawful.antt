-- The readers of fields and methods are lawful.
use Rattle.std.proofs.Common.{◌≡◌, ℕ, ◌<◌, ◌^◌, Bool, true, false, ◌&&◌, not, cond, List, ◌++◌, length, get_or, Option}
use Rattle.std.proofs.Common.{Some, None, Err}
use Rattle.std.proofs.Common.{refl, sym, ap, subst, ◌∙◌, arith, inl, inr}
use Rattle.std.specs.Bool.{Decides}
use Rattle.std.specs.Int.{w16}
use Rattle.std.specs.List.{list_any}
use Rattle.std.proofs.lemmas.List.Folds.{Any-from_list_any, list_any-from_Any, list_any_none}
use Rattle.std.proofs.lemmas.Slice.Eq.{bytes_eq-Decides}
use Rattle.std.proofs.lemmas.Bool.{and_parts, and_from, cases_Bool}
use Rattle.classfile.specs.declared.fault.ClassFault.TheVariants as faults
use Rattle.classfile.specs.declared.constant.Constant.{Constant}
use Rattle.classfile.specs.declared.attribute.Attribute.{Attribute}
use Rattle.classfile.specs.declared.member.Member.{Member}
use Rattle.classfile.specs.declared.member.MemberKind.{MemberKind}
use Rattle.classfile.specs.declared.member.MemberKind.TheVariants as kinds
use Rattle.classfile.specs.reading.Numbers.{◌>>=◌, number_at}
use Rattle.classfile.specs.Gives.{offset}
use Rattle.classfile.specs.Faults.{Number}
use Rattle.classfile.specs.Lookup.{utf8_of}
use Rattle.classfile.specs.reading.LookupTests.{equal_utf8s, same_utf8}
use Rattle.classfile.specs.Flags.{has_no_body}
use Rattle.classfile.specs.reading.Descriptors.{is_field, is_method}
use Rattle.classfile.specs.Grammar.{IsFieldDescriptor, IsMethodDescriptor}
use Rattle.classfile.specs.Pool.{IsIndexOf, IsUtf8}
use Rattle.classfile.specs.Members.{owner_of, Differ, is_code}
use Rattle.classfile.specs.reading.Code.{utf8_index_at}
use Rattle.classfile.specs.reading.Members.{has_descriptor, descriptor_at, is_like, is_declared, lacks_code, member_of}
use Rattle.classfile.specs.reading.Members.{member_body_at, member_at}
use Rattle.classfile.specs.reading.Members.{members_at, attributes_at}
use Rattle.classfile.specs.Spelling.{u2}
use Rattle.classfile.specs.Text.{table_text, attribute_text, member_text}
use Rattle.classfile.specs.FirstFault.{Ruled, IsItem, IndexOf, IsAttributes, IsDescriptorOf, IsMemberOf, IsNew}
use Rattle.classfile.specs.FirstFault.{HasItsCode, DescriptorFails}
use Rattle.classfile.specs.FirstFault.{MemberAttributesFail, MemberFails, IsMembers, MembersFail}
use Rattle.classfile.proofs.Lawful.{Lawful, Both, Mapped, wide16, number_lawful}
use Rattle.classfile.proofs.RuleLawful.{Refuses, append_equal, ruled_lawful, kept_lawful, guarded_lawful}
use Rattle.classfile.proofs.Lawful.{restated, then_lawful}
use Rattle.classfile.proofs.TableLawful.{table_lawful}
use Rattle.classfile.proofs.LookupTestsLemmas.{text_decides, within}
use Rattle.classfile.proofs.ScanLemmas.{field_decides, method_decides}
use Rattle.classfile.proofs.CodeLawful.{utf8_index_lawful}
use Rattle.classfile.proofs.AttributeLawful.{utf8_where_is_utf8, none_passes, attributes_lawful}

-- ---- tests

equal_itself : (o : Option (List ℕ)) → equal_utf8s o o ≡ true
equal_itself None = refl
equal_itself (Some t) = (bytes_eq-Decides t t).1 refl

equal_are : (o p : Option (List ℕ)) → equal_utf8s o p ≡ true → o ≡ p
equal_are None None e = refl
equal_are None (Some b) e = absurd cc
equal_are (Some a) None e = absurd cc
equal_are (Some a) (Some b) e = ap (λ (z : List ℕ). Some z) ((bytes_eq-Decides a b).0 e)

same_decides : (pool : List Constant) (a b : ℕ) → Decides (same_utf8 pool a b) (utf8_of pool a ≡ utf8_of pool b)
unfolding same_utf8
same_decides pool a b = (equal_are (utf8_of pool a) (utf8_of pool b), λ e. rw e (equal_itself (utf8_of pool b)))

abbrev IsLike : List Constant → ℕ → ℕ → Member → Type 0
IsLike pool name descriptor m = (utf8_of pool m.name ≡ utf8_of pool name)
    × (utf8_of pool m.descriptor ≡ utf8_of pool descriptor)

like_decides : (pool : List Constant) (name descriptor : ℕ) (m : Member)
    → Decides (is_like pool name descriptor m) (IsLike pool name descriptor m)
like_decides pool name descriptor m = (
  λ e.
      let b = and_parts (same_utf8 pool m.name name) (same_utf8 pool m.descriptor descriptor) e in
      ((same_decides pool m.name name).0 b.0, (same_decides pool m.descriptor descriptor).0 b.1),
  λ h. and_from (same_utf8 pool m.name name) (same_utf8 pool m.descriptor descriptor)
      ((same_decides pool m.name name).1 h.0)
      ((same_decides pool m.descriptor descriptor).1 h.1),
)

declared_refuses : (pool : List Constant) (name descriptor : ℕ) (earlier : List Member)
    → Refuses (is_declared pool name descriptor earlier) (IsNew pool name descriptor earlier)
unfolding is_declared
declared_refuses pool name descriptor earlier =
    let test : Member → Bool = λ m. is_like pool name descriptor m in (
      λ none k d lt same.
          let hit = (like_decides pool name descriptor (get_or earlier k d)).1 same in
          let miss = none_passes test earlier none k d lt in
          absurd cc,
      λ new. list_any_none test earlier (λ k d lt. elim (cases_Bool (test (get_or earlier k d))) [
        | inl hit ↦ absurd (new k d lt ((like_decides pool name descriptor (get_or earlier k d)).0 hit))
        | inr miss ↦ miss
      ]),
    )

code_by : (none has : Bool) → (not none && not has) ≡ false → none ≡ false → has ≡ true
code_by true has e h = absurd cc
code_by false true e h = refl
code_by false false e h = absurd cc

code_again : (none has : Bool) → (none ≡ false → has ≡ true) → (not none && not has) ≡ false
code_again true has h = refl
code_again false has h = let e = h refl in rw e refl

lacks_refuses : (kind : MemberKind) (flags : ℕ) (found : List Attribute)
    → Refuses (lacks_code kind flags found) (HasItsCode kind flags found)
lacks_refuses kinds.Field flags found = (λ e. tt, λ h. refl)
lacks_refuses kinds.Method flags found = (
  λ e has_body. Any-from_list_any is_code found (code_by (has_no_body flags) (list_any is_code found) e has_body),
  λ h. code_again (has_no_body flags) (list_any is_code found)
      (λ has_body. list_any-from_Any is_code found (h has_body)),
)

descriptor_decides : (kind : MemberKind) (pool : List Constant) (index : ℕ)
    → Decides (has_descriptor kind pool index) (IsDescriptorOf kind pool index)
unfolding has_descriptor
descriptor_decides kinds.Field pool index = text_decides is_field IsFieldDescriptor field_decides pool index
descriptor_decides kinds.Method pool index = text_decides is_method IsMethodDescriptor method_decides pool index

-- ---- one member

-- what holds of a member of or_cases kind
record MemberFacts (kind : MemberKind) (pool : List Constant) (member : Member) : Type 0 where
  access_flags : member.access_flags < 2 ^ 16
  name : IsIndexOf IsUtf8 pool member.name
  descriptor : IsDescriptorOf kind pool member.descriptor
  attributes : IsAttributes pool (owner_of kind member.access_flags member.descriptor) member.attributes
      (table_text attribute_text member.attributes)
  has_code : HasItsCode kind member.access_flags member.attributes

member_fits : (kind : MemberKind) (pool : List Constant) (member : Member) → MemberFacts kind pool member
    → IsMemberOf kind pool member
member_fits kinds.Field pool member f =
    record {
      access_flags = f.access_flags;
      name = f.name;
      descriptor = f.descriptor;
      attribute_count = f.attributes.count;
      attributes =
          f.attributes.each;
      one_value = f.attributes.pairs;
    }
member_fits kinds.Method pool member f =
    record {
      access_flags = f.access_flags;
      name = f.name;
      descriptor = f.descriptor;
      attribute_count = f.attributes.count;
      attributes =
          f.attributes.each;
      one_code = f.attributes.pairs;
      has_code = f.has_code;
    }

member_facts : (kind : MemberKind) (pool : List Constant) (member : Member) → IsMemberOf kind pool member
    → MemberFacts kind pool member
member_facts kinds.Field pool member f = record {
  access_flags = f.access_flags;
  name = f.name;
  descriptor = f.descriptor;
  attributes = record { count = f.attribute_count; each = f.attributes; pairs = f.one_value; spelled = refl };
  has_code = tt;
}
member_facts kinds.Method pool member f = record {
  access_flags = f.access_flags;
  name = f.name;
  descriptor = f.descriptor;
  attributes = record { count = f.attribute_count; each = f.attributes; pairs = f.one_code; spelled = refl };
  has_code = f.has_code;
}

abbrev BodyParts : MemberKind → List Constant → ℕ → ℕ → ℕ → Member → List ℕ → Type 0
BodyParts kind pool flags name descriptor =
    Mapped (member_of flags name descriptor)
    (Ruled (IsAttributes pool (owner_of kind flags descriptor)) (HasItsCode kind flags))

body_lawful : (kind : MemberKind) (pool : List Constant) → length pool < 2 ^ 16 → (total at flags name descriptor : ℕ)
    → Lawful (member_body_at kind pool total at flags name descriptor) (BodyParts kind pool flags name descriptor)
    (MemberAttributesFail kind pool total at flags descriptor)
unfolding member_body_at
body_lawful kind pool small total at flags name descriptor =
    kept_lawful (member_of flags name descriptor) (lacks_code kind flags) (HasItsCode kind flags) (faults.Attribute at)
    (attributes_at pool (owner_of kind flags descriptor) total)
    (lacks_refuses kind flags) (attributes_lawful pool (owner_of kind flags descriptor) small total)

abbrev DescriptorIndex : MemberKind → List Constant → ℕ → List ℕ → Type 0
DescriptorIndex kind pool = Ruled (IndexOf (IsIndexOf IsUtf8 pool)) (IsDescriptorOf kind pool)

descriptor_lawful : (kind : MemberKind) (pool : List Constant) (total : ℕ)
    → Lawful (descriptor_at kind pool total) (DescriptorIndex kind pool) (DescriptorFails kind pool total)
unfolding descriptor_at
descriptor_lawful kind pool total = ruled_lawful (utf8_index_at pool total) (has_descriptor kind pool)
    (IsDescriptorOf kind pool)
    (λ bytes index. faults.Descriptor index) (descriptor_decides kind pool) (utf8_index_lawful pool total)

abbrev MemberParts : MemberKind → List Constant → List Member → Member → List ℕ → Type 0
MemberParts kind pool earlier =
    Both (Number w16) (λ flags. Both (IndexOf (IsIndexOf IsUtf8 pool)) (λ name. Both (DescriptorIndex kind pool)
    (λ descriptor member text. IsNew pool name descriptor earlier
    × BodyParts kind pool flags name descriptor member text)))

abbrev IsMemberText : MemberKind → List Constant → List Member → Member → List ℕ → Type 0
IsMemberText kind pool = IsItem member_text (IsMemberOf kind pool) (Differ pool)

member_is : (kind : MemberKind) (pool : List Constant) (earlier : List Member) (member : Member) (text : List ℕ)
    → MemberParts kind pool earlier member text → IsMemberText kind pool earlier member text
member_is kind pool earlier member text s =
    let name = s.second in
    let descriptor = name.second in
    let body = descriptor.second.1 in
    let found = body.spelled.0 in
    let made = member_of s.value name.value descriptor.value body.value in
    let one = descriptor.parts ∙ append_equal descriptor.front (u2 descriptor.value) descriptor.back
    (table_text attribute_text body.value)
    descriptor.first.0.0.1 found.spelled in
    let two = name.parts
    ∙ append_equal name.front (u2 name.value) name.back
    (u2 descriptor.value ++ table_text attribute_text body.value)
    name.first.0.1 one in
    let text-is : text ≡ member_text made = s.parts
    ∙ append_equal s.front (u2 s.value) s.back
    (u2 name.value ++ (u2 descriptor.value ++ table_text attribute_text body.value)) s.first.1 two
    in
    let facts : MemberFacts kind pool made = record {
      access_flags = s.first.0;
      name = name.first.1;
      descriptor = descriptor.first.1;
      attributes = record { count = found.count; each = found.each; pairs = found.pairs; spelled = refl };
      has_code = body.spelled.1;
    } in
    let it : IsMemberText kind pool earlier made text = record {
      fits = member_fits kind pool made facts;
      pairs = descriptor.second.0;
      spelled = text-is;
    } in
    let P : Member → Type 0 = λ z. IsMemberText kind pool earlier z text in subst P (sym body.is) it

text_form : (kind : MemberKind) (pool : List Constant) (index : ℕ) → IsDescriptorOf kind pool index
    → IsIndexOf IsUtf8 pool index
text_form kinds.Field pool index h = utf8_where_is_utf8 IsFieldDescriptor pool index h
text_form kinds.Method pool index h = utf8_where_is_utf8 IsMethodDescriptor pool index h

member_again : (kind : MemberKind) (pool : List Constant) (earlier : List Member) → length pool < 2 ^ 16
    → (member : Member) (text : List ℕ)
    → IsMemberText kind pool earlier member text → MemberParts kind pool earlier member text
member_again kind pool earlier small member text s =
    let f = member_facts kind pool member s.fits in
    let last = table_text attribute_text member.attributes in
    let is_text = text_form kind pool member.descriptor f.descriptor in
    let name_below = within IsUtf8 pool member.name f.name in
    let descriptor_below = within IsUtf8 pool member.descriptor is_text in
    record {
      value = member.access_flags;
      front = u2 member.access_flags;
      back = u2 member.name ++ (u2 member.descriptor ++ last);
      first = (f.access_flags, refl);
      second = record {
        value = member.name;
        front = u2 member.name;
        back = u2 member.descriptor ++ last;
        first = ((omega (arith, name_below, small), refl), f.name);
        second = record {
          value = member.descriptor;
          front = u2 member.descriptor;
          back = last;
          first = (((omega (arith, descriptor_below, small), refl), is_text), f.descriptor);
          second = (s.pairs, record { value = member.attributes; spelled = (f.attributes, f.has_code); is = refl });
          parts = refl;
        };
        parts = refl;
      };
      parts = s.spelled;
    }

member_lawful : (kind : MemberKind) (pool : List Constant) → length pool < 2 ^ 16 → (total : ℕ) (earlier : List Member)
    → Lawful (member_at kind pool total earlier) (IsMemberText kind pool earlier) (MemberFails kind pool total earlier)
unfolding member_at
member_lawful kind pool small total earlier =
    restated
    (then_lawful (number_at w16 total)
    (λ bytes flags. utf8_index_at pool total flags.1 >>= λ name. descriptor_at kind pool total name.1 >>= λ descriptor.
    cond (is_declared pool name.0 descriptor.0 earlier) (Err (faults.Index (offset total bytes)))
    (member_body_at kind pool total (offset total bytes) flags.0 name.0 descriptor.0 descriptor.1))
    (number_lawful w16 wide16 total)
    (λ start flags text s. then_lawful (utf8_index_at pool total)
    (λ bytes name. descriptor_at kind pool total name.1 >>= λ descriptor.
    cond (is_declared pool name.0 descriptor.0 earlier) (Err (faults.Index (offset total start)))
    (member_body_at kind pool total (offset total start) flags name.0 descriptor.0 descriptor.1))
    (utf8_index_lawful pool total)
    (λ bytes name text s. then_lawful (descriptor_at kind pool total)
    (λ bytes descriptor. cond (is_declared pool name descriptor.0 earlier) (Err (faults.Index (offset total start)))
    (member_body_at kind pool total (offset total start) flags name descriptor.0 descriptor.1))
    (descriptor_lawful kind pool total)
    (λ bytes descriptor text s. guarded_lawful (is_declared pool name descriptor earlier)
    (IsNew pool name descriptor earlier)
    (faults.Index (offset total start)) (member_body_at kind pool total (offset total start) flags name descriptor)
    (declared_refuses pool name descriptor earlier)
    (λ new. body_lawful kind pool small total (offset total start) flags name
    descriptor)))))
    (member_is kind pool earlier) (member_again kind pool earlier small)

pub members_lawful : (kind : MemberKind) (pool : List Constant) → length pool < 2 ^ 16 → (total : ℕ)
    → Lawful (members_at kind pool total) (IsMembers kind pool) (MembersFail kind pool total)
unfolding members_at
members_lawful kind pool small total =
    table_lawful member_text (IsMemberOf kind pool) (Differ pool) (MemberFails kind pool total)
    (member_at kind pool total) total
    (member_lawful kind pool small total)
