-- The checks of constants against one another, in order.
use Rattle.std.specs.Prelude.{ℕ, ◌+◌, ◌-◌, ◌%◌, ◌^◌, Bool, ◌&&◌, ◌||◌, List, [], ◌∷◌}
use Rattle.std.specs.Prelude.{length, Option, Some, None, Result, Ok, Err, nat_lt, is_some, if◌then◌else◌}
use Rattle.classfile.specs.declared.fault.ClassFault.{ClassFault}
use Rattle.classfile.specs.declared.fault.ClassFault.TheVariants as faults
use Rattle.classfile.specs.declared.constant.Constant.{Constant}
use Rattle.classfile.specs.declared.constant.Constant.TheVariants as constants
use Rattle.classfile.specs.reading.Numbers.{◌>>=◌}
use Rattle.classfile.specs.Spelling.{constant_text}
use Rattle.classfile.specs.Lookup.{utf8_of}
use Rattle.classfile.specs.reading.LookupTests.{has_utf8, passes, is_class, descriptor_of, is_member}
use Rattle.classfile.specs.reading.Descriptors.{is_field, is_method, is_class_name}

abbrev pub holds : Bool → ClassFault → Result (Unit {0}) ClassFault
holds b fault = if b then Ok tt else Err fault

abbrev pub member_type : (List ℕ → Bool) → List Constant → ℕ → ℕ → Option ℕ → Result (Unit {0}) ClassFault
member_type test pool at index None = Err (faults.Index (at + 3))
member_type test pool at index (Some descriptor) =
    holds (passes test (utf8_of pool descriptor)) (faults.Descriptor index)

-- a reference to a member whose descriptor passes
unfoldable pub member_check : (List ℕ → Bool) → List Constant → ℕ → ℕ → ℕ → ℕ → Result (Unit {0}) ClassFault
member_check test pool at index class name_and_type =
    if is_class pool class then member_type test pool at index (descriptor_of pool name_and_type) else Err
    (faults.Index (at + 1))

abbrev pub utf8_check : List Constant → ℕ → ℕ → Result (Unit {0}) ClassFault
utf8_check pool at index = holds (has_utf8 pool index) (faults.Index (at + 1))

-- a class whose name is one
abbrev pub class_check : ℕ → ℕ → Option (List ℕ) → Result (Unit {0}) ClassFault
class_check at index None = Err (faults.Index (at + 1))
class_check at index (Some name) = holds (is_class_name name) (faults.Descriptor index)

abbrev pub type_check : ℕ → ℕ → Option (List ℕ) → Result (Unit {0}) ClassFault
type_check at index None = Err (faults.Index (at + 3))
type_check at index (Some text) = holds (is_field text || is_method text) (faults.Descriptor index)

unfoldable pub check : List Constant → ℕ → ℕ → Constant → Result (Unit {0}) ClassFault
check pool at index constants.Unusable = Ok tt
check pool at index (constants.Utf8 text) = Ok tt
check pool at index (constants.Integer bits) = Ok tt
check pool at index (constants.Float bits) = Ok tt
check pool at index (constants.Long high low) = Ok tt
check pool at index (constants.Double high low) = Ok tt
check pool at index (constants.Class name) = class_check at index (utf8_of pool name)
check pool at index (constants.String text) = utf8_check pool at text
check pool at index (constants.MethodType text) = utf8_check pool at text
check pool at index (constants.Fieldref class name_and_type) = member_check is_field pool at index class name_and_type
check pool at index (constants.Methodref class name_and_type) = member_check is_method pool at index class name_and_type
check pool at index (constants.InterfaceMethodref class name_and_type) =
    member_check is_method pool at index class name_and_type
check pool at index (constants.NameAndType name descriptor) =
    utf8_check pool at name >>= λ _. type_check at index (utf8_of pool descriptor)
check pool at index (constants.MethodHandle kind reference) =
    holds (nat_lt 0 kind && nat_lt kind 10) (faults.Index (at + 1)) >>= λ _. holds (is_member pool reference)
    (faults.Index (at + 2))
check pool at index (constants.InvokeDynamic bootstrap name_and_type) =
    holds (is_some (descriptor_of pool name_and_type)) (faults.Index (at + 3))

-- each constant in order, from where so many bytes are left
unfoldable pub checks : List Constant → ℕ → ℕ → ℕ → List Constant → Result (Unit {0}) ClassFault
checks pool total left index [] = Ok tt
checks pool total left index (c ∷ cs) = check pool (total - left) index c
    >>= λ _. checks pool total (left - length (constant_text c)) ((index + 1) % 2 ^ 16) cs
