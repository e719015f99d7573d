-- Values that suit and values that do not.
use Rattle.std.proofs.Common.{◌≡◌, pos, negsuc, true, false, refl}
use Rattle.vm_state.specs.declared.value.Value.TheVariants as values
use Rattle.program.specs.declared.runtime_constant.FieldKind.TheVariants as kinds
use Rattle.region_shape.specs.Suits.{suits}

boolean_one : suits kinds.Boolean (values.Int (pos 1)) ≡ true
boolean_one = refl

boolean_two : suits kinds.Boolean (values.Int (pos 2)) ≡ false
boolean_two = refl

boolean_less : suits kinds.Boolean (values.Int (negsuc 0)) ≡ false
boolean_less = refl

byte_least : suits kinds.Byte (values.Int (negsuc 127)) ≡ true
byte_least = refl

byte_below : suits kinds.Byte (values.Int (negsuc 128)) ≡ false
byte_below = refl

byte_above : suits kinds.Byte (values.Int (pos 128)) ≡ false
byte_above = refl

char_most : suits kinds.Char (values.Int (pos 65535)) ≡ true
char_most = refl

char_above : suits kinds.Char (values.Int (pos 65536)) ≡ false
char_above = refl

char_less : suits kinds.Char (values.Int (negsuc 0)) ≡ false
char_less = refl

short_least : suits kinds.Short (values.Int (negsuc 32767)) ≡ true
short_least = refl

short_above : suits kinds.Short (values.Int (pos 32768)) ≡ false
short_above = refl

long_int : suits kinds.Long (values.Int (pos 0)) ≡ false
long_int = refl

int_null : suits kinds.Int values.Null ≡ false
int_null = refl

reference_out : suits kinds.Reference values.Out ≡ true
reference_out = refl

reference_int : suits kinds.Reference (values.Int (pos 0)) ≡ false
reference_int = refl

float_none : suits kinds.Float (values.Int (pos 0)) ≡ false
float_none = refl
