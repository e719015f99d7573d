-- What stands at an index of a constant pool, as tests that compute.
use Rattle.std.specs.Prelude.{ℕ, Bool, true, false, not, ◌||◌, List, [], ◌∷◌, Option, Some, None, slice_get, is_some}
use Rattle.std.specs.Prelude.{◌==◌}
use Rattle.std.specs.Str.{bytes_eq}
use Rattle.classfile.specs.declared.constant.Constant.{Constant}
use Rattle.classfile.specs.declared.constant.Constant.TheVariants as constants
use Rattle.classfile.specs.Lookup.{utf8_of, class_name_of}

unfoldable pub has_utf8 : List Constant → ℕ → Bool
has_utf8 pool index = is_some (utf8_of pool index)

abbrev pub passes : (List ℕ → Bool) → Option (List ℕ) → Bool
passes test None = false
passes test (Some text) = test text

abbrev pub equal_utf8s : Option (List ℕ) → Option (List ℕ) → Bool
equal_utf8s None None = true
equal_utf8s (Some a) (Some b) = bytes_eq a b
equal_utf8s _ _ = false

-- whether two indices name the same text
unfoldable pub same_utf8 : List Constant → ℕ → ℕ → Bool
same_utf8 pool a b = equal_utf8s (utf8_of pool a) (utf8_of pool b)

abbrev pub class_in : Option Constant → Bool
class_in (Some (constants.Class name)) = true
class_in _ = false

unfoldable pub is_class : List Constant → ℕ → Bool
is_class pool index = class_in (slice_get pool index)

unfoldable pub is_class_or_none : List Constant → ℕ → Bool
is_class_or_none pool index = index == 0 || is_class pool index

-- not the descriptor of an array
abbrev pub is_no_array : List ℕ → Bool
is_no_array [] = true
is_no_array (b ∷ bs) = not (b == 91)

unfoldable pub is_plain_class : List Constant → ℕ → Bool
is_plain_class pool index = passes is_no_array (class_name_of pool index)

abbrev pub descriptor_in : Option Constant → Option ℕ
descriptor_in (Some (constants.NameAndType name descriptor)) = Some descriptor
descriptor_in _ = None

-- the index of the descriptor of the NameAndType at an index
unfoldable pub descriptor_of : List Constant → ℕ → Option ℕ
descriptor_of pool index = descriptor_in (slice_get pool index)

abbrev pub member_in : Option Constant → Bool
member_in (Some (constants.Fieldref class name_and_type)) = true
member_in (Some (constants.Methodref class name_and_type)) = true
member_in (Some (constants.InterfaceMethodref class name_and_type)) = true
member_in _ = false

unfoldable pub is_member : List Constant → ℕ → Bool
is_member pool index = member_in (slice_get pool index)
