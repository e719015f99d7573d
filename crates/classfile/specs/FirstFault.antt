-- The first rule that the bytes of a file break, in the order of the file (JVMS 4.1 to 4.7).
use Rattle.std.specs.Prelude.{◌≡◌, ℕ, zero, suc, ◌+◌, ◌<◌, ◌^◌, ◌⊎◌, Bool, true, false, List, [], ◌∷◌, ◌++◌, length}
use Rattle.std.specs.List.{All, AllPairs, Any}
use Rattle.std.specs.Int.{w16, w32}
use Rattle.classfile.specs.declared.fault.ClassFault.{ClassFault}
use Rattle.classfile.specs.declared.fault.ClassFault.TheVariants as faults
use Rattle.classfile.specs.declared.constant.Constant.{Constant}
use Rattle.classfile.specs.declared.constant.Constant.TheVariants as constants
use Rattle.classfile.specs.declared.header.Header.{Header}
use Rattle.classfile.specs.declared.attribute.Attribute.{Attribute}
use Rattle.classfile.specs.declared.attribute.Owner.{Owner}
use Rattle.classfile.specs.declared.attribute.Owner.TheVariants as owners
use Rattle.classfile.specs.declared.member.Member.{Member}
use Rattle.classfile.specs.declared.member.MemberKind.{MemberKind}
use Rattle.classfile.specs.declared.member.MemberKind.TheVariants as kinds
use Rattle.classfile.specs.Gives.{offset}
use Rattle.classfile.specs.Faults.{Either, Number, Cut, CutNumber, TwoFail, IsConstantsText, ConstantsFail}
use Rattle.classfile.specs.Spelling.{u2, constant_text, constants_text}
use Rattle.classfile.specs.Text.{table_text, framed_text, attribute_text, member_text}
use Rattle.classfile.specs.Lookup.{utf8_of}
use Rattle.classfile.specs.Flags.{has_no_body}
use Rattle.classfile.specs.Grammar.{IsFieldDescriptor, IsMethodDescriptor, IsClassName}
use Rattle.classfile.specs.Pool.{IsIndexOf, IsUtf8, IsUtf8Where, IsClass, IsClassNamed, IsNameAndType, IsTyped}
use Rattle.classfile.specs.Pool.{IsMemberref}
use Rattle.classfile.specs.Pool.{IsDescriptor, HasReferences, IsPool}
use Rattle.classfile.specs.Members.{is_constant_value, is_code, IsFieldAttribute, IsMethodAttribute, IsClassAttribute}
use Rattle.classfile.specs.Members.{owner_of, IsField, IsMethod, Differ}
use Rattle.classfile.specs.ClassFile.{ClassFile}
use Rattle.classfile.specs.Class.{IsNoArray, IsClassText}

-- ---- rules

-- a rule is broken, and this is its fault
abbrev pub Breaks : {E : Type 0} → Type 0 → E → E → Type 0
Breaks Rule why fault = (¬ Rule) × (fault ≡ why)

-- a rule is broken, or it holds and what comes next fails
abbrev pub BreaksOr : {E : Type 0} → Type 0 → E → (E → Type 0) → E → Type 0
BreaksOr Rule why Next fault = Breaks Rule why fault ⊎ (Rule × Next fault)

-- the text of what keeps a rule
abbrev pub Ruled : {X : Type 0} → (X → List ℕ → Type 0) → (X → Type 0) → X → List ℕ → Type 0
Ruled Spells Rule x text = Spells x text × Rule x

-- a part fails, or what it spells breaks a rule
abbrev pub RuleFails : {X E : Type 0} → (X → List ℕ → Type 0) → (List ℕ → E → Type 0) → (X → Type 0) → (X → E)
    → List ℕ → E → Type 0
RuleFails Spells Fails Rule why = Either Spells Fails (λ x rest. Breaks (Rule x) (why x))

-- ---- tables

-- an item that may stand after earlier ones
pub record IsItem {X : Type 0} (spell : X → List ℕ) (Fits : X → Type 0) (MayFollow : X → X → Type 0) (earlier : List X)
    (x : X)
    (text : List ℕ) : Type 0 where
  pub fits : Fits x
  pub pairs : All (λ e. MayFollow e x) earlier
  pub spelled : text ≡ spell x

-- A count of 16 bits, and so many items.
pub record IsTableText {X : Type 0} (spell : X → List ℕ) (Fits : X → Type 0) (MayFollow : X → X → Type 0)
    (items : List X)
    (text : List ℕ) : Type 0 where
  pub count : length items < 2 ^ 16
  pub each : All Fits items
  pub pairs : AllPairs MayFollow items
  pub spelled : text ≡ table_text spell items

-- the first of so many items that fails
abbrev pub ItemsFail : {X : Type 0} → (List X → X → List ℕ → Type 0) → (List X → List ℕ → ClassFault → Type 0) → ℕ
    → List X → List ℕ
    → ClassFault → Type 0
ItemsFail Spells Fails zero earlier bytes fault = ⊥
ItemsFail Spells Fails (suc n) earlier bytes fault =
    Either (Spells earlier) (Fails earlier) (λ x. ItemsFail Spells Fails n (earlier ++ x ∷ [])) bytes fault

-- the count of a table fails, or the first of its items that does
abbrev pub TableFails : {X : Type 0} → (List X → X → List ℕ → Type 0) → (List X → List ℕ → ClassFault → Type 0) → ℕ
    → List ℕ
    → ClassFault → Type 0
TableFails Spells Fails total = Either (Number w16) (CutNumber w16 total) (λ count. ItemsFail Spells Fails count [])

-- any two items may stand in one table
abbrev pub Anything : {X : Type 0} → X → X → Type 0
Anything a b = Unit {0}

-- ---- magic and version (JVMS 4.1)

-- CAFEBABE
abbrev pub IsMagic : ℕ → List ℕ → Type 0
IsMagic = Ruled (Number w32) (λ magic. magic ≡ 3405691582)

abbrev pub MagicFails : ℕ → List ℕ → ClassFault → Type 0
MagicFails total = RuleFails (Number w32) (CutNumber w32 total) (λ magic. magic ≡ 3405691582) (λ magic. faults.Magic)

-- two numbers of 16 bits
abbrev pub TwoNumbers : ℕ × ℕ → List ℕ → Type 0
TwoNumbers v text = (v.0 < 2 ^ 16) × (v.1 < 2 ^ 16) × (text ≡ u2 v.0 ++ u2 v.1)

-- the minor version is 0, and the major one 52
abbrev pub IsSupported : ℕ × ℕ → Type 0
IsSupported v = (v.0 ≡ 0) × (v.1 ≡ 52)

abbrev pub IsVersion : ℕ × ℕ → List ℕ → Type 0
IsVersion = Ruled TwoNumbers IsSupported

abbrev pub VersionFails : ℕ → List ℕ → ClassFault → Type 0
VersionFails total = RuleFails TwoNumbers (TwoFail w16 w16 total) IsSupported (λ v. faults.Version v.1 v.0)

-- ---- the constant pool (JVMS 4.4)

-- a reference to a member: its class, its name and type, and that one's descriptor
abbrev pub MemberrefFails : (List ℕ → Type 0) → List Constant → ℕ → ℕ → ℕ → ℕ → ClassFault → Type 0
MemberrefFails Form pool at index class name_and_type =
    BreaksOr (IsIndexOf IsClass pool class) (faults.Index (at + 1))
    (BreaksOr (IsIndexOf IsNameAndType pool name_and_type) (faults.Index (at + 3))
    (Breaks (IsIndexOf (IsTyped Form pool) pool name_and_type) (faults.Descriptor index)))

-- The first rule on references that the constant at an index breaks. Its tag stands at an offset.
abbrev pub ReferenceFails : List Constant → ℕ → ℕ → Constant → ClassFault → Type 0
ReferenceFails pool at index (constants.Class name) =
    BreaksOr (IsIndexOf IsUtf8 pool name) (faults.Index (at + 1))
    (Breaks (IsIndexOf (IsUtf8Where IsClassName) pool name) (faults.Descriptor index))
ReferenceFails pool at index (constants.String text) = Breaks (IsIndexOf IsUtf8 pool text) (faults.Index (at + 1))
ReferenceFails pool at index (constants.MethodType text) = Breaks (IsIndexOf IsUtf8 pool text) (faults.Index (at + 1))
ReferenceFails pool at index (constants.Fieldref class name_and_type) =
    MemberrefFails IsFieldDescriptor pool at index class name_and_type
ReferenceFails pool at index (constants.Methodref class name_and_type) =
    MemberrefFails IsMethodDescriptor pool at index class name_and_type
ReferenceFails pool at index (constants.InterfaceMethodref class name_and_type) =
    MemberrefFails IsMethodDescriptor pool at index class name_and_type
ReferenceFails pool at index (constants.NameAndType name descriptor) =
    BreaksOr (IsIndexOf IsUtf8 pool name) (faults.Index (at + 1))
    (BreaksOr (IsIndexOf IsUtf8 pool descriptor) (faults.Index (at + 3))
    (Breaks (IsIndexOf (IsUtf8Where IsDescriptor) pool descriptor) (faults.Descriptor index)))
ReferenceFails pool at index (constants.MethodHandle kind reference) =
    BreaksOr ((0 < kind) × (kind < 10)) (faults.Index (at + 1))
    (Breaks (IsIndexOf IsMemberref pool reference) (faults.Index (at + 2)))
ReferenceFails pool at index (constants.InvokeDynamic bootstrap name_and_type) =
    Breaks (IsIndexOf IsNameAndType pool name_and_type) (faults.Index (at + 3))
ReferenceFails pool at index _ = λ fault. ⊥

-- The first of these constants that breaks a rule on references: they stand from an index on, and so much stands after
-- them.
abbrev pub ReferencesFail : List Constant → ℕ → List ℕ → ℕ → List Constant → ClassFault → Type 0
ReferencesFail pool total rest index [] fault = ⊥
ReferencesFail pool total rest index (c ∷ cs) fault =
    ReferenceFails pool (offset total (constants_text (c ∷ cs) ++ rest)) index c fault
    ⊎ (HasReferences pool c × ReferencesFail pool total rest (index + 1) cs fault)

-- the constants of a count fail, and then their references
abbrev pub CountedFail : ℕ → ℕ → List ℕ → ClassFault → Type 0
CountedFail count total =
    Either (IsConstantsText count) (ConstantsFail count total) (λ pool rest. ReferencesFail pool total rest 0 pool)

-- the text of a constant pool
pub record IsPoolText (pool : List Constant) (text : List ℕ) : Type 0 where
  pub fits : IsPool pool
  pub spelled : text ≡ table_text constant_text pool

-- its count, which isn't 0, and its constants
abbrev pub PoolFails : ℕ → List ℕ → ClassFault → Type 0
PoolFails total bytes = Either (Number w16) (CutNumber w16 total)
    (λ count rest. BreaksOr (0 < count) (faults.Index (offset total bytes)) (CountedFail count total rest)) bytes

-- ---- indices

-- a number of 16 bits of which a rule holds
abbrev pub IndexOf : (ℕ → Type 0) → ℕ → List ℕ → Type 0
IndexOf Rule = Ruled (Number w16) Rule

-- another number is no index, where it stands
abbrev pub IndexFails : (ℕ → Type 0) → ℕ → List ℕ → ClassFault → Type 0
IndexFails Rule total bytes =
    RuleFails (Number w16) (CutNumber w16 total) Rule (λ index. faults.Index (offset total bytes)) bytes

-- ---- flags, name and parents (JVMS 4.1)

-- a Class that is no array
abbrev pub IsThisClass : List Constant → ℕ → Type 0
IsThisClass pool index = IsIndexOf (IsClassNamed IsNoArray pool) pool index

-- 0, or a Class
abbrev pub IsSuperClass : List Constant → ℕ → Type 0
IsSuperClass pool index = (index ≡ 0) ⊎ IsIndexOf IsClass pool index

abbrev pub header_text : Header → List ℕ
header_text d = u2 d.access_flags ++ (u2 d.this_class ++ (u2 d.super_class ++ table_text u2 d.interfaces))

-- their text
pub record IsHeader (pool : List Constant) (d : Header) (text : List ℕ) : Type 0 where
  pub access_flags : d.access_flags < 2 ^ 16
  pub this_class : IsThisClass pool d.this_class
  pub super_class : IsSuperClass pool d.super_class
  pub interface_count : length d.interfaces < 2 ^ 16
  pub interfaces : All (IsIndexOf IsClass pool) d.interfaces
  pub spelled : text ≡ header_text d

abbrev pub InterfacesFail : List Constant → ℕ → List ℕ → ClassFault → Type 0
InterfacesFail pool total =
    TableFails (IsItem u2 (IsIndexOf IsClass pool) Anything) (λ earlier. IndexFails (IsIndexOf IsClass pool) total)
    total

abbrev pub HeaderFails : List Constant → ℕ → List ℕ → ClassFault → Type 0
HeaderFails pool total =
    Either (Number w16) (CutNumber w16 total) (λ flags.
    Either (IndexOf (IsThisClass pool)) (IndexFails (IsThisClass pool) total) (λ this.
    Either (IndexOf (IsSuperClass pool)) (IndexFails (IsSuperClass pool) total) (λ super.
    InterfacesFail pool total)))

-- ---- attributes (JVMS 4.7)

-- what is looked into is an attribute of its owner
abbrev pub IsAttributeOf : List Constant → Owner → Attribute → Type 0
IsAttributeOf pool owners.Class attribute = IsClassAttribute pool attribute
IsAttributeOf pool (owners.Field flags descriptor) attribute = IsFieldAttribute pool flags descriptor attribute
IsAttributeOf pool (owners.Method flags) attribute = IsMethodAttribute pool flags attribute

-- an attribute that an owner has at most once
abbrev pub is_single : Owner → Attribute → Bool
is_single owners.Class attribute = false
is_single (owners.Field flags descriptor) attribute = is_constant_value attribute
is_single (owners.Method flags) attribute = is_code attribute

abbrev pub NotBoth : Owner → Attribute → Attribute → Type 0
NotBoth owner a b = is_single owner a ≡ true → is_single owner b ≡ false

-- an attribute after earlier ones of its owner
abbrev pub IsAttributeText : List Constant → Owner → List Attribute → Attribute → List ℕ → Type 0
IsAttributeText pool owner = IsItem attribute_text (IsAttributeOf pool owner) (NotBoth owner)

-- a name, a length of 32 bits, and so many bytes
pub record IsFrame (pool : List Constant) (frame : ℕ × List ℕ) (text : List ℕ) : Type 0 where
  pub index : frame.0 < 2 ^ 16
  pub name : IsIndexOf IsUtf8 pool frame.0
  pub size : length frame.1 < 2 ^ 32
  pub spelled : text ≡ framed_text frame.0 frame.1

abbrev pub FrameFails : List Constant → ℕ → List ℕ → ClassFault → Type 0
FrameFails pool total =
    Either (IndexOf (IsIndexOf IsUtf8 pool)) (IndexFails (IsIndexOf IsUtf8 pool) total) (λ name.
    Either (Number w32) (CutNumber w32 total) (λ count.
    Cut count total))

-- the frame is the text of an attribute that may stand there
abbrev pub IsContent : List Constant → Owner → List Attribute → ℕ × List ℕ → Type 0
IsContent pool owner earlier frame = (attribute : Attribute)
    × IsAttributeText pool owner earlier attribute (framed_text frame.0 frame.1)

-- Its frame fails, or its content is none. Every fault of a content, of Code too, is the attribute's.
abbrev pub AttributeFails : List Constant → Owner → ℕ → List Attribute → List ℕ → ClassFault → Type 0
AttributeFails pool owner total earlier bytes =
    RuleFails (IsFrame pool) (FrameFails pool total) (IsContent pool owner earlier)
    (λ frame. faults.Attribute (offset total bytes)) bytes

abbrev pub IsAttributes : List Constant → Owner → List Attribute → List ℕ → Type 0
IsAttributes pool owner = IsTableText attribute_text (IsAttributeOf pool owner) (NotBoth owner)

abbrev pub AttributesFail : List Constant → Owner → ℕ → List ℕ → ClassFault → Type 0
AttributesFail pool owner total = TableFails (IsAttributeText pool owner) (AttributeFails pool owner total) total

-- ---- fields and methods (JVMS 4.5, 4.6)

abbrev pub IsDescriptorOf : MemberKind → List Constant → ℕ → Type 0
IsDescriptorOf kinds.Field pool index = IsIndexOf (IsUtf8Where IsFieldDescriptor) pool index
IsDescriptorOf kinds.Method pool index = IsIndexOf (IsUtf8Where IsMethodDescriptor) pool index

abbrev pub IsMemberOf : MemberKind → List Constant → Member → Type 0
IsMemberOf kinds.Field pool member = IsField pool member
IsMemberOf kinds.Method pool member = IsMethod pool member

-- none of these members has this name and descriptor
abbrev pub IsNew : List Constant → ℕ → ℕ → List Member → Type 0
IsNew pool name descriptor earlier =
    All (λ m. ¬ ((utf8_of pool m.name ≡ utf8_of pool name) × (utf8_of pool m.descriptor ≡ utf8_of pool descriptor)))
    earlier

-- a method that isn't NATIVE or ABSTRACT has code
abbrev pub HasItsCode : MemberKind → ℕ → List Attribute → Type 0
HasItsCode kinds.Field flags found = Unit {0}
HasItsCode kinds.Method flags found = has_no_body flags ≡ false → Any (λ attribute. is_code attribute ≡ true) found

-- the index of a Utf8, and its text is a descriptor of the form of its kind
abbrev pub DescriptorFails : MemberKind → List Constant → ℕ → List ℕ → ClassFault → Type 0
DescriptorFails kind pool total =
    RuleFails (IndexOf (IsIndexOf IsUtf8 pool)) (IndexFails (IsIndexOf IsUtf8 pool) total) (IsDescriptorOf kind pool)
    (λ index. faults.Descriptor index)

-- the attributes of a member that begins at an offset
abbrev pub MemberAttributesFail : MemberKind → List Constant → ℕ → ℕ → ℕ → ℕ → List ℕ → ClassFault → Type 0
MemberAttributesFail kind pool total at flags descriptor =
    RuleFails (IsAttributes pool (owner_of kind flags descriptor))
    (AttributesFail pool (owner_of kind flags descriptor) total)
    (HasItsCode kind flags) (λ found. faults.Attribute at)

-- flags, a name, a descriptor, both not those of an earlier member, and attributes
abbrev pub MemberFails : MemberKind → List Constant → ℕ → List Member → List ℕ → ClassFault → Type 0
MemberFails kind pool total earlier bytes =
    Either (Number w16) (CutNumber w16 total) (λ flags.
    Either (IndexOf (IsIndexOf IsUtf8 pool)) (IndexFails (IsIndexOf IsUtf8 pool) total) (λ name.
    Either (Ruled (IndexOf (IsIndexOf IsUtf8 pool)) (IsDescriptorOf kind pool)) (DescriptorFails kind pool total)
    (λ descriptor rest.
    BreaksOr (IsNew pool name descriptor earlier) (faults.Index (offset total bytes))
    (MemberAttributesFail kind pool total (offset total bytes) flags descriptor rest)))) bytes

abbrev pub IsMembers : MemberKind → List Constant → List Member → List ℕ → Type 0
IsMembers kind pool = IsTableText member_text (IsMemberOf kind pool) (Differ pool)

abbrev pub MembersFail : MemberKind → List Constant → ℕ → List ℕ → ClassFault → Type 0
MembersFail kind pool total = TableFails (IsItem member_text (IsMemberOf kind pool) (Differ pool))
    (MemberFails kind pool total) total

-- ---- the file (JVMS 4.1)

-- the first part that fails
abbrev pub PartsFail : ℕ → List ℕ → ClassFault → Type 0
PartsFail total =
    Either IsMagic (MagicFails total) (λ magic.
    Either IsVersion (VersionFails total) (λ version.
    Either IsPoolText (PoolFails total) (λ pool.
    Either (IsHeader pool) (HeaderFails pool total) (λ header.
    Either (IsMembers kinds.Field pool) (MembersFail kinds.Field pool total) (λ fields.
    Either (IsMembers kinds.Method pool) (MembersFail kinds.Method pool total) (λ methods.
    AttributesFail pool owners.Class total))))))

-- The first rule that is broken, from the file's front to its back, has this fault. Nothing stands after a class file.
abbrev pub FirstFault : List ℕ → ClassFault → Type 0
FirstFault bytes =
    Either (λ class text. IsClassText text class) (PartsFail (length bytes))
    (λ class rest. Breaks (rest ≡ []) (faults.Extra (offset (length bytes) rest))) bytes

-- memory ran out, or this is the first fault
abbrev pub IsFirstFault : List ℕ → ClassFault → Type 0
IsFirstFault bytes faults.Memory = Unit {0}
IsFirstFault bytes fault = FirstFault bytes fault

-- Bytes are the text of one class, or have one first fault, and never both.
pub record ExactlyOne (bytes : List ℕ) : Type 0 where
  pub some : ((class : ClassFile) × IsClassText bytes class) ⊎ ((fault : ClassFault) × FirstFault bytes fault)
  pub not_both : (class : ClassFile) (fault : ClassFault) → IsClassText bytes class → FirstFault bytes fault → ⊥
  pub one_class : (a b : ClassFile) → IsClassText bytes a → IsClassText bytes b → a ≡ b
  pub one_fault : (f g : ClassFault) → FirstFault bytes f → FirstFault bytes g → f ≡ g
