-- Readers of values and elements.
use Rattle.std.specs.Prelude.{ℕ, pos, List, [], Option, Some, None, Result, Ok, Err, cond, not}
use Rattle.std.specs.Int.{w8, w16, w32, w64, cast_signed}
use Rattle.classfile.specs.reading.Numbers.{◌>>=◌}
use Rattle.program.specs.declared.runtime_constant.FieldKind.{FieldKind}
use Rattle.program.specs.declared.runtime_constant.FieldKind.TheVariants as kinds
use Rattle.image_format.specs.Values.{ImageValue}
use Rattle.image_format.specs.Values as values
use Rattle.image_format.specs.Shapes.{is_in_range}
use Rattle.image_parser.specs.declared.fault.RegionFault.{RegionFault}
use Rattle.image_parser.specs.declared.fault.RegionFault.TheVariants as faults
use Rattle.image_parser.specs.declared.tag.Tag.{Tag}
use Rattle.image_parser.specs.declared.tag.Tag.TheVariants as tags
use Rattle.image_parser.specs.FirstFailing.{times}
use Rattle.image_parser.specs.Tags.{tag_of, may_have}
use Rattle.image_parser.specs.reading.Results.{number_at, each_at}

abbrev pub Reader : Type 0
Reader = List ℕ → Result (ImageValue × List ℕ) RegionFault

-- the values of numbers
abbrev pub int_of_bits : ℕ → ImageValue
int_of_bits bits = values.Int (cast_signed w32 bits)

abbrev pub long_of_bits : ℕ → ImageValue
long_of_bits bits = values.Long (cast_signed w64 bits)

abbrev pub byte_of_bits : ℕ → ImageValue
byte_of_bits bits = values.Int (cast_signed w8 bits)

abbrev pub short_of_bits : ℕ → ImageValue
short_of_bits bits = values.Int (cast_signed w16 bits)

abbrev pub char_of_bits : ℕ → ImageValue
char_of_bits bits = values.Int (pos bits)

abbrev pub unit_at : Unit {0} → List ℕ → Result (ℕ × List ℕ) RegionFault
unit_at one = number_at w16

abbrev pub units_at : ℕ → List ℕ → Result (List ℕ × List ℕ) RegionFault
units_at count = each_at unit_at (times count) []

abbrev pub long_at : Reader
long_at bytes = number_at w64 bytes >>= λ bits. Ok (long_of_bits bits.0, bits.1)

unfoldable pub int_at : FieldKind → Reader
int_at kind bytes = number_at w32 bytes >>= λ bits. cond (not (is_in_range kind (cast_signed w32 bits.0)))
    (Err faults.Shape) (Ok (int_of_bits bits.0, bits.1))

unfoldable pub counted_units_at : List ℕ → Result (List ℕ × List ℕ) RegionFault
counted_units_at bytes = number_at w16 bytes >>= λ count. units_at count.0 count.1

unfoldable pub text_at : Reader
text_at bytes = counted_units_at bytes >>= λ units. Ok (values.Text units.0, units.1)

unfoldable pub reference_at : Reader
reference_at bytes = number_at w32 bytes >>= λ class. number_at w32 class.1
    >>= λ number. Ok (values.Object class.0 number.0, number.1)

abbrev pub body_at : FieldKind → Tag → Reader
body_at kind tags.Null bytes = Ok (values.Null, bytes)
body_at kind tags.Int bytes = int_at kind bytes
body_at kind tags.Long bytes = long_at bytes
body_at kind tags.Text bytes = text_at bytes
body_at kind tags.Object bytes = reference_at bytes
body_at kind tags.Out bytes = Ok (values.Out, bytes)

abbrev pub tagged_at : FieldKind → Option Tag → Reader
tagged_at kind None bytes = Err faults.Shape
tagged_at kind (Some tag) bytes = cond (not (may_have kind tag)) (Err faults.Shape) (body_at kind tag bytes)

unfoldable pub value_at : FieldKind → Reader
value_at kind bytes = number_at w8 bytes >>= λ tag. tagged_at kind (tag_of tag.0) tag.1

abbrev pub made_at : (ℕ → ImageValue) → Result (ℕ × List ℕ) RegionFault → Result (ImageValue × List ℕ) RegionFault
made_at make read = read >>= λ bits. Ok (make bits.0, bits.1)

unfoldable pub element_at : FieldKind → Reader
element_at kinds.Byte bytes = made_at byte_of_bits (number_at w8 bytes)
element_at kinds.Char bytes = made_at char_of_bits (number_at w16 bytes)
element_at kinds.Short bytes = made_at short_of_bits (number_at w16 bytes)
element_at kinds.Int bytes = made_at int_of_bits (number_at w32 bytes)
element_at kinds.Long bytes = long_at bytes
element_at kind bytes = value_at kind bytes
