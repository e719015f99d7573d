-- Reading attributes and members.
use Rattle.std.specs.Prelude.{ℕ, Bool, false, not, ◌&&◌, ◌||◌, List, [], ◌∷◌}
use Rattle.std.specs.Prelude.{Option, Some, None, Result, Ok, Err, slice_get, ◌==◌, if◌then◌else◌}
use Rattle.std.specs.List.{list_any}
use Rattle.std.specs.Str.{bytes_eq}
use Rattle.std.specs.Int.{w16, from_be_bytes}
use Rattle.classfile.specs.declared.fault.ClassFault.{ClassFault}
use Rattle.classfile.specs.declared.fault.ClassFault.TheVariants as faults
use Rattle.classfile.specs.declared.constant.Constant.{Constant}
use Rattle.classfile.specs.declared.constant.Constant.TheVariants as constants
use Rattle.classfile.specs.declared.attribute.Attribute.{Attribute}
use Rattle.classfile.specs.declared.attribute.Attribute.TheVariants as attributes
use Rattle.classfile.specs.declared.attribute.Owner.{Owner}
use Rattle.classfile.specs.declared.attribute.Owner.TheVariants as owners
use Rattle.classfile.specs.declared.attribute.Meaning.{Meaning}
use Rattle.classfile.specs.declared.attribute.Meaning.TheVariants as meanings
use Rattle.classfile.specs.declared.member.Member.{Member}
use Rattle.classfile.specs.declared.member.MemberKind.{MemberKind}
use Rattle.classfile.specs.declared.member.MemberKind.TheVariants as kinds
use Rattle.classfile.specs.reading.Numbers.{◌>>=◌, number_at, inside_attribute}
use Rattle.classfile.specs.Gives.{offset}
use Rattle.classfile.specs.Lookup.{utf8_of}
use Rattle.classfile.specs.reading.LookupTests.{passes, same_utf8}
use Rattle.classfile.specs.reading.Descriptors.{is_field, is_method}
use Rattle.classfile.specs.reading.Repeat.{repeat_at, table_at}
use Rattle.classfile.specs.reading.Code.{utf8_index_at, framed_at, unread_of, whole_code}
use Rattle.classfile.specs.Flags.{has_flag, has_no_body}
use Rattle.classfile.specs.Members.{is_constant_value, is_code}
use Rattle.classfile.specs.Members.{owner_of}
use Rattle.classfile.specs.Names.{constant_value_name, code_name, string_descriptor}

-- what an attribute of a name means to its owner
abbrev pub meaning_of : Owner → List ℕ → Meaning
meaning_of owners.Class name = meanings.Unread
meaning_of (owners.Field flags descriptor) name =
    if has_flag flags 8 && bytes_eq name constant_value_name then meanings.ConstantValue descriptor else meanings.Unread
meaning_of (owners.Method flags) name = if bytes_eq name code_name then meanings.Code flags else meanings.Unread

abbrev pub meaning_at : Owner → Option (List ℕ) → Meaning
meaning_at owner None = meanings.Unread
meaning_at owner (Some name) = meaning_of owner name

abbrev pub is_int_descriptor : List ℕ → Bool
is_int_descriptor (b ∷ []) = b == 73 || b == 83 || b == 67 || b == 66 || b == 90
is_int_descriptor _ = false

-- whether a field of a descriptor may have this constant as its value
abbrev pub suits : List ℕ → Option Constant → Bool
suits descriptor (Some (constants.Integer bits)) = is_int_descriptor descriptor
suits descriptor (Some (constants.Long high low)) = bytes_eq descriptor (74 ∷ [])
suits descriptor (Some (constants.Float bits)) = bytes_eq descriptor (70 ∷ [])
suits descriptor (Some (constants.Double high low)) = bytes_eq descriptor (68 ∷ [])
suits descriptor (Some (constants.String text)) = bytes_eq descriptor string_descriptor
suits descriptor _ = false

-- whether the constant at an index suits the descriptor at another
unfoldable pub suits_at : List Constant → ℕ → ℕ → Bool
suits_at pool descriptor value = passes (λ text. suits text (slice_get pool value)) (utf8_of pool descriptor)

abbrev pub value_of : List ℕ → Option ℕ
value_of (high ∷ low ∷ []) = Some (from_be_bytes w16 (high ∷ low ∷ []))
value_of _ = None

abbrev pub suiting_value : List Constant → ℕ → ℕ → ℕ → Option ℕ → Result Attribute ClassFault
suiting_value pool at descriptor name None = Err (faults.Attribute at)
suiting_value pool at descriptor name (Some value) =
    if suits_at pool descriptor value then Ok (attributes.ConstantValue name value)
    else Err (faults.Attribute at)

unfoldable pub constant_value_of : List Constant → ℕ → ℕ → List Attribute → ℕ → List ℕ → Result Attribute ClassFault
constant_value_of pool at descriptor earlier name content =
    if list_any is_constant_value earlier then Err (faults.Attribute at) else suiting_value pool at descriptor name
    (value_of content)

-- any fault in it is the attribute's
abbrev pub inside : {X : Type 0} → ℕ → Result X ClassFault → Result X ClassFault
inside at (Ok x) = Ok x
inside at (Err e) = Err (inside_attribute e at)

unfoldable pub code_attribute_of : List Constant → ℕ → ℕ → List Attribute → ℕ → List ℕ → Result Attribute ClassFault
code_attribute_of pool at flags earlier name content =
    if has_no_body flags || list_any is_code earlier then Err (faults.Attribute at) else inside at
    (whole_code pool content)
    >>= λ code. Ok (attributes.Code name code)

unfoldable pub content_of : List Constant → ℕ → Meaning → List Attribute → ℕ → List ℕ → Result Attribute ClassFault
content_of pool at meanings.Unread earlier name content = Ok (attributes.Unread (unread_of name content))
content_of pool at (meanings.ConstantValue descriptor) earlier name content =
    constant_value_of pool at descriptor earlier name content
content_of pool at (meanings.Code flags) earlier name content = code_attribute_of pool at flags earlier name content

unfoldable pub attribute_at : List Constant → Owner → ℕ → List Attribute → List ℕ
    → Result (Attribute × List ℕ) ClassFault
attribute_at pool owner total earlier bytes = do
  framed ← framed_at pool total bytes
  attribute ← content_of pool (offset total bytes) (meaning_at owner (utf8_of pool framed.0.0)) earlier framed.0.0
      framed.0.1
  Ok (attribute, framed.1)

unfoldable pub attributes_at : List Constant → Owner → ℕ → List ℕ → Result (List Attribute × List ℕ) ClassFault
attributes_at pool owner total bytes = table_at (attribute_at pool owner total) total bytes

-- ---- members

abbrev pub is_descriptor_of : MemberKind → List ℕ → Bool
is_descriptor_of kinds.Field text = is_field text
is_descriptor_of kinds.Method text = is_method text

unfoldable pub has_descriptor : MemberKind → List Constant → ℕ → Bool
has_descriptor kind pool index = passes (is_descriptor_of kind) (utf8_of pool index)

-- the index of a descriptor
unfoldable pub descriptor_at : MemberKind → List Constant → ℕ → List ℕ → Result (ℕ × List ℕ) ClassFault
descriptor_at kind pool total bytes =
    utf8_index_at pool total bytes >>= λ index. if has_descriptor kind pool index.0 then Ok index
    else Err (faults.Descriptor index.0)

abbrev pub is_like : List Constant → ℕ → ℕ → Member → Bool
is_like pool name descriptor m = same_utf8 pool m.name name && same_utf8 pool m.descriptor descriptor

-- whether one of these members has this name and descriptor
unfoldable pub is_declared : List Constant → ℕ → ℕ → List Member → Bool
is_declared pool name descriptor earlier = list_any (is_like pool name descriptor) earlier

-- whether a method that has to have code has none
abbrev pub lacks_code : MemberKind → ℕ → List Attribute → Bool
lacks_code kinds.Field flags found = false
lacks_code kinds.Method flags found = not (has_no_body flags) && not (list_any is_code found)

abbrev pub member_of : ℕ → ℕ → ℕ → List Attribute → Member
member_of flags name descriptor found =
    record { access_flags = flags; name = name; descriptor = descriptor; attributes = found }

-- the attributes of a member that begins at an offset
unfoldable pub member_body_at : MemberKind → List Constant → ℕ → ℕ → ℕ → ℕ → ℕ → List ℕ
    → Result (Member × List ℕ) ClassFault
member_body_at kind pool total at flags name descriptor bytes =
    attributes_at pool (owner_of kind flags descriptor) total bytes >>= λ found.
    if lacks_code kind flags found.0 then Err (faults.Attribute at) else Ok (
      member_of flags name descriptor found.0,
      found.1,
    )

-- the indices of a member's name and descriptor
unfoldable pub name_and_descriptor_at : MemberKind → List Constant → ℕ → List ℕ → Result ((ℕ × ℕ) × List ℕ) ClassFault
name_and_descriptor_at kind pool total bytes = do
  name ← utf8_index_at pool total bytes
  descriptor ← descriptor_at kind pool total name.1
  Ok ((name.0, descriptor.0), descriptor.1)

unfoldable pub member_at : MemberKind → List Constant → ℕ → List Member → List ℕ → Result (Member × List ℕ) ClassFault
member_at kind pool total earlier bytes = do
  flags ← number_at w16 total bytes
  name ← utf8_index_at pool total flags.1
  descriptor ← descriptor_at kind pool total name.1
  if is_declared pool name.0 descriptor.0 earlier then Err (faults.Index (offset total bytes))
      else member_body_at kind pool total (offset total bytes) flags.0 name.0 descriptor.0 descriptor.1

-- so many members
abbrev pub counted_members_at : MemberKind → List Constant → ℕ → ℕ → List ℕ → Result (List Member × List ℕ) ClassFault
counted_members_at kind pool total count bytes = repeat_at (member_at kind pool total) count [] bytes

unfoldable pub members_at : MemberKind → List Constant → ℕ → List ℕ → Result (List Member × List ℕ) ClassFault
members_at kind pool total bytes = table_at (member_at kind pool total) total bytes
