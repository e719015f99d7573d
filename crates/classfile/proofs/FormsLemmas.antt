-- What the form of a constant says of its text.
use Rattle.std.proofs.Common.{◌≡◌, false, Option, Some, None, refl}
use Rattle.std.specs.Option.{option_map, option_map_or}
use Rattle.classfile.specs.declared.constant.Constant.{Constant}
use Rattle.classfile.specs.declared.constant.Constant.TheVariants as constants
use Rattle.classfile.specs.reading.Descriptors.{is_field, is_method, is_class_name}
use Rattle.classfile.specs.reading.Forms.{form_of}
use Rattle.classfile.specs.Lookup.{utf8_in}
use Rattle.classfile.specs.reading.LookupTests.{passes}

pub field_form : (constant : Option Constant)
    → option_map_or (λ form. form.is_field) (option_map form_of constant) false
    ≡ passes is_field (utf8_in constant)
field_form None = refl
field_form (Some (constants.Utf8 text)) = refl
field_form (Some _) = refl

pub method_form : (constant : Option Constant)
    → option_map_or (λ form. form.is_method) (option_map form_of constant) false
    ≡ passes is_method (utf8_in constant)
method_form None = refl
method_form (Some (constants.Utf8 text)) = refl
method_form (Some _) = refl

pub class_name_form : (constant : Option Constant)
    → option_map_or (λ form. form.is_class_name) (option_map form_of constant) false
    ≡ passes is_class_name (utf8_in constant)
class_name_form None = refl
class_name_form (Some (constants.Utf8 text)) = refl
class_name_form (Some _) = refl
