-- What the text of each constant of a pool is.
use Rattle.std.specs.Prelude.{false, List, map}
use Rattle.classfile.specs.declared.constant.Constant.{Constant}
use Rattle.classfile.specs.declared.constant.Constant.TheVariants as constants
use Rattle.classfile.specs.declared.forms.TextForm.{TextForm}
use Rattle.classfile.specs.reading.Descriptors.{is_field, is_method, is_class_name}

-- a constant that is no text is none of the three
abbrev pub form_of : Constant → TextForm
form_of (constants.Utf8 text) =
    record { is_field = is_field text; is_method = is_method text; is_class_name = is_class_name text }
form_of _ = record { is_field = false; is_method = false; is_class_name = false }

abbrev pub forms_of : List Constant → List TextForm
forms_of pool = map form_of pool
