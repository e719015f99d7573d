-- What attributes, code and members have to be (JVMS 4.5, 4.6, 4.7).
use Rattle.std.specs.Prelude.{◌≡◌, ◌≢◌, ℕ, ◌≤◌, ◌<◌, ◌^◌, ◌⊎◌, Bool, true, false, List, [], ◌∷◌, length, Option, Some}
use Rattle.std.specs.Prelude.{None}
use Rattle.std.specs.List.{All, AllPairs, Any, Contains}
use Rattle.classfile.specs.declared.constant.Constant.{Constant}
use Rattle.classfile.specs.declared.constant.Constant.TheVariants as constants
use Rattle.classfile.specs.declared.unread.UnreadAttribute.{UnreadAttribute}
use Rattle.classfile.specs.declared.exceptions.ExceptionHandler.{ExceptionHandler}
use Rattle.classfile.specs.declared.code.Code.{Code}
use Rattle.classfile.specs.declared.attribute.Attribute.{Attribute}
use Rattle.classfile.specs.declared.attribute.Attribute.TheVariants as attributes
use Rattle.classfile.specs.declared.attribute.Owner.{Owner}
use Rattle.classfile.specs.declared.attribute.Owner.TheVariants as owners
use Rattle.classfile.specs.declared.member.Member.{Member}
use Rattle.classfile.specs.declared.member.MemberKind.{MemberKind}
use Rattle.classfile.specs.declared.member.MemberKind.TheVariants as kinds
use Rattle.classfile.specs.Flags.{has_flag, has_no_body}
use Rattle.classfile.specs.Names.{constant_value_name, code_name, string_descriptor}
use Rattle.classfile.specs.Lookup.{utf8_of}
use Rattle.classfile.specs.Grammar.{IsFieldDescriptor, IsMethodDescriptor}
use Rattle.classfile.specs.Pool.{IsIndexOf, IsUtf8, IsUtf8Where, IsClass}
use Rattle.classfile.specs.Text.{code_text}

abbrev pub is_constant_value : Attribute → Bool
is_constant_value (attributes.ConstantValue name value) = true
is_constant_value _ = false

abbrev pub is_code : Attribute → Bool
is_code (attributes.Code name code) = true
is_code _ = false

-- whose attributes a member's are
abbrev pub owner_of : MemberKind → ℕ → ℕ → Owner
owner_of kinds.Field flags descriptor = owners.Field flags descriptor
owner_of kinds.Method flags descriptor = owners.Method flags

-- the code of the first Code
abbrev pub code_among : List Attribute → Option Code
code_among [] = None
code_among (attributes.Code name code ∷ rest) = Some code
code_among (attribute ∷ rest) = code_among rest

-- the constant's index in the first ConstantValue
abbrev pub value_among : List Attribute → Option ℕ
value_among [] = None
value_among (attributes.ConstantValue name value ∷ rest) = Some value
value_among (attribute ∷ rest) = value_among rest

-- an attribute of any name (JVMS 4.7)
pub record IsUnread (pool : List Constant) (attribute : UnreadAttribute) : Type 0 where
  pub name : IsIndexOf IsUtf8 pool attribute.name
  pub size : length attribute.bytes < 2 ^ 32

-- an attribute of another name
pub record IsUnreadBut (other : List ℕ) (pool : List Constant) (attribute : UnreadAttribute) : Type 0 where
  pub name : IsIndexOf (IsUtf8Where (λ text. text ≢ other)) pool attribute.name
  pub size : length attribute.bytes < 2 ^ 32

-- an entry of the exception table of code of so many bytes (JVMS 4.7.3)
pub record IsHandler (pool : List Constant) (code_length : ℕ) (handler : ExceptionHandler) : Type 0 where
  pub range : handler.start_pc < handler.end_pc
  pub range_end : handler.end_pc ≤ code_length
  pub target : handler.handler_pc < code_length
  pub type : (handler.catch_type ≡ 0) ⊎ IsIndexOf IsClass pool handler.catch_type

-- JVMS 4.7.3
pub record IsCode (pool : List Constant) (code : Code) : Type 0 where
  pub max_stack : code.max_stack < 2 ^ 16
  pub max_locals : code.max_locals < 2 ^ 16
  pub not_empty : 0 < length code.code
  pub code_length : length code.code < 65536
  pub exception_count : length code.exceptions < 2 ^ 16
  pub exceptions : All (IsHandler pool (length code.code)) code.exceptions
  pub attribute_count : length code.attributes < 2 ^ 16
  pub attributes : All (IsUnread pool) code.attributes
  pub size : length (code_text code) < 2 ^ 32

-- a constant that a field of a descriptor may have as its value (JVMS 4.7.2, table 4.7.2-A)
abbrev pub IsValueOf : List ℕ → Constant → Type 0
IsValueOf descriptor (constants.Integer bits) = (letter : ℕ)
    × (Contains (73 ∷ 83 ∷ 67 ∷ 66 ∷ 90 ∷ []) letter × (descriptor ≡ letter ∷ []))
IsValueOf descriptor (constants.Float bits) = descriptor ≡ 70 ∷ []
IsValueOf descriptor (constants.Long high low) = descriptor ≡ 74 ∷ []
IsValueOf descriptor (constants.Double high low) = descriptor ≡ 68 ∷ []
IsValueOf descriptor (constants.String text) = descriptor ≡ string_descriptor
IsValueOf descriptor _ = ⊥

-- an attribute of a field: ConstantValue is looked into where the field is STATIC (JVMS 4.5, 4.7.2)
abbrev pub IsFieldAttribute : List Constant → ℕ → ℕ → Attribute → Type 0
IsFieldAttribute pool flags descriptor (attributes.ConstantValue name value) =
    (has_flag flags 8 ≡ true) × IsIndexOf (IsUtf8Where (λ text. text ≡ constant_value_name)) pool name
    × IsIndexOf (IsUtf8Where (λ text. IsIndexOf (IsValueOf text) pool value)) pool descriptor
IsFieldAttribute pool flags descriptor (attributes.Code name code) = ⊥
IsFieldAttribute pool flags descriptor (attributes.Unread attribute) =
    IsUnread pool attribute × (has_flag flags 8 ≡ true → IsUnreadBut constant_value_name pool attribute)

-- an attribute of a method: Code, where it isn't NATIVE or ABSTRACT (JVMS 4.6, 4.7.3)
abbrev pub IsMethodAttribute : List Constant → ℕ → Attribute → Type 0
IsMethodAttribute pool flags (attributes.ConstantValue name value) = ⊥
IsMethodAttribute pool flags (attributes.Code name code) =
    (has_no_body flags ≡ false) × IsIndexOf (IsUtf8Where (λ text. text ≡ code_name)) pool name × IsCode pool code
IsMethodAttribute pool flags (attributes.Unread attribute) = IsUnreadBut code_name pool attribute

-- an attribute of a class: none is looked into (JVMS 4.1)
abbrev pub IsClassAttribute : List Constant → Attribute → Type 0
IsClassAttribute pool (attributes.Unread attribute) = IsUnread pool attribute
IsClassAttribute pool _ = ⊥

-- no two of the attributes pass a test
abbrev pub AtMostOne : (Attribute → Bool) → List Attribute → Type 0
AtMostOne test attributes = AllPairs (λ a b. test a ≡ true → test b ≡ false) attributes

-- JVMS 4.5
pub record IsField (pool : List Constant) (field : Member) : Type 0 where
  pub access_flags : field.access_flags < 2 ^ 16
  pub name : IsIndexOf IsUtf8 pool field.name
  pub descriptor : IsIndexOf (IsUtf8Where IsFieldDescriptor) pool field.descriptor
  pub attribute_count : length field.attributes < 2 ^ 16
  pub attributes : All (IsFieldAttribute pool field.access_flags field.descriptor) field.attributes
  pub one_value : AtMostOne is_constant_value field.attributes

-- JVMS 4.6
pub record IsMethod (pool : List Constant) (method : Member) : Type 0 where
  pub access_flags : method.access_flags < 2 ^ 16
  pub name : IsIndexOf IsUtf8 pool method.name
  pub descriptor : IsIndexOf (IsUtf8Where IsMethodDescriptor) pool method.descriptor
  pub attribute_count : length method.attributes < 2 ^ 16
  pub attributes : All (IsMethodAttribute pool method.access_flags) method.attributes
  pub one_code : AtMostOne is_code method.attributes
  -- a method that isn't NATIVE or ABSTRACT has code
  pub has_code : has_no_body method.access_flags ≡ false → Any (λ attribute. is_code attribute ≡ true) method.attributes

-- two members that differ in the text of their name or of their descriptor
abbrev pub Differ : List Constant → Member → Member → Type 0
Differ pool a b =
    ¬ ((utf8_of pool a.name ≡ utf8_of pool b.name) × (utf8_of pool a.descriptor ≡ utf8_of pool b.descriptor))
