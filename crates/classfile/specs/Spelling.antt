-- The one spelling of each constant and of the constants of a pool.
use Rattle.std.specs.Prelude.{◌≡◌, ℕ, ◌<◌, ◌^◌, Bool, true, false, List, [], ◌∷◌, ◌++◌, length}
use Rattle.std.specs.List.{flat_map}
use Rattle.std.specs.Int.{w8, w16, w32, to_be_bytes}
use Rattle.classfile.specs.declared.constant.Constant.{Constant}
use Rattle.classfile.specs.declared.constant.Constant.TheVariants as constants
use Rattle.classfile.specs.Units.{IsModifiedUtf8}
use Rattle.classfile.specs.Constants.{is_wide}

abbrev pub u1 : ℕ → List ℕ
u1 n = to_be_bytes w8 n

abbrev pub u2 : ℕ → List ℕ
u2 n = to_be_bytes w16 n

abbrev pub u4 : ℕ → List ℕ
u4 n = to_be_bytes w32 n

abbrev pub constant_text : Constant → List ℕ
constant_text constants.Unusable = []
constant_text (constants.Utf8 text) = u1 1 ++ (u2 (length text) ++ text)
constant_text (constants.Integer bits) = u1 3 ++ u4 bits
constant_text (constants.Float bits) = u1 4 ++ u4 bits
constant_text (constants.Long high low) = u1 5 ++ (u4 high ++ u4 low)
constant_text (constants.Double high low) = u1 6 ++ (u4 high ++ u4 low)
constant_text (constants.Class name) = u1 7 ++ u2 name
constant_text (constants.String text) = u1 8 ++ u2 text
constant_text (constants.Fieldref class name_and_type) = u1 9 ++ (u2 class ++ u2 name_and_type)
constant_text (constants.Methodref class name_and_type) = u1 10 ++ (u2 class ++ u2 name_and_type)
constant_text (constants.InterfaceMethodref class name_and_type) = u1 11 ++ (u2 class ++ u2 name_and_type)
constant_text (constants.NameAndType name descriptor) = u1 12 ++ (u2 name ++ u2 descriptor)
constant_text (constants.MethodHandle kind reference) = u1 15 ++ (u1 kind ++ u2 reference)
constant_text (constants.MethodType descriptor) = u1 16 ++ u2 descriptor
constant_text (constants.InvokeDynamic bootstrap name_and_type) = u1 18 ++ (u2 bootstrap ++ u2 name_and_type)

-- what a constant's numbers and text have to be, to stand in a file
abbrev pub Fits : Constant → Type 0
Fits constants.Unusable = ⊥
Fits (constants.Utf8 text) = (length text < 2 ^ 16) × IsModifiedUtf8 text
Fits (constants.Integer bits) = bits < 2 ^ 32
Fits (constants.Float bits) = bits < 2 ^ 32
Fits (constants.Long high low) = (high < 2 ^ 32) × (low < 2 ^ 32)
Fits (constants.Double high low) = (high < 2 ^ 32) × (low < 2 ^ 32)
Fits (constants.Class name) = name < 2 ^ 16
Fits (constants.String text) = text < 2 ^ 16
Fits (constants.Fieldref class name_and_type) = (class < 2 ^ 16) × (name_and_type < 2 ^ 16)
Fits (constants.Methodref class name_and_type) = (class < 2 ^ 16) × (name_and_type < 2 ^ 16)
Fits (constants.InterfaceMethodref class name_and_type) = (class < 2 ^ 16) × (name_and_type < 2 ^ 16)
Fits (constants.NameAndType name descriptor) = (name < 2 ^ 16) × (descriptor < 2 ^ 16)
Fits (constants.MethodHandle kind reference) = (kind < 2 ^ 8) × (reference < 2 ^ 16)
Fits (constants.MethodType descriptor) = descriptor < 2 ^ 16
Fits (constants.InvokeDynamic bootstrap name_and_type) = (bootstrap < 2 ^ 16) × (name_and_type < 2 ^ 16)

-- After a wide constant, and nowhere else, stands an unusable number.
abbrev pub AreConstants : Bool → List Constant → Type 0
AreConstants after_wide [] = after_wide ≡ false
AreConstants true (c ∷ cs) = (c ≡ constants.Unusable) × AreConstants false cs
AreConstants false (c ∷ cs) = Fits c × AreConstants (is_wide c) cs

abbrev pub constants_text : List Constant → List ℕ
constants_text constants = flat_map constant_text constants
