-- What stands at an index of a constant pool.
use Rattle.std.specs.Prelude.{ℕ, List, Option, Some, None, slice_get}
use Rattle.classfile.specs.declared.constant.Constant.{Constant}
use Rattle.classfile.specs.declared.constant.Constant.TheVariants as constants

abbrev pub utf8_in : Option Constant → Option (List ℕ)
utf8_in (Some (constants.Utf8 text)) = Some text
utf8_in _ = None

-- the bytes of the Utf8 at an index
unfoldable pub utf8_of : List Constant → ℕ → Option (List ℕ)
utf8_of pool index = utf8_in (slice_get pool index)

abbrev pub class_name_in : List Constant → Option Constant → Option (List ℕ)
class_name_in pool (Some (constants.Class name)) = utf8_of pool name
class_name_in pool _ = None

-- the bytes of the name of the Class at an index
unfoldable pub class_name_of : List Constant → ℕ → Option (List ℕ)
class_name_of pool index = class_name_in pool (slice_get pool index)
