-- What an image's text tells that is neither an int nor a long suits references alone.
use Rattle.std.proofs.Common.{◌≡◌, refl}
use Rattle.program.specs.declared.runtime_constant.FieldKind.{FieldKind}
use Rattle.program.specs.declared.runtime_constant.FieldKind.TheVariants as kinds
use Rattle.image_format.specs.Values.{ImageValue}
use Rattle.image_format.specs.Values as values
use Rattle.image_format.specs.Shapes.{IsIntOf, IsLong, Suits}

-- neither an int nor a long
abbrev pub IsNoNumber : ImageValue → Type 0
IsNoNumber (values.Int n) = ⊥
IsNoNumber (values.Long n) = ⊥
IsNoNumber _ = Unit {0}

no_int : (kind : FieldKind) (v : ImageValue) → IsNoNumber v → IsIntOf kind v → ⊥
no_int kind (values.Int n) other int = other
no_int kind v other int = int

no_long : (v : ImageValue) → IsNoNumber v → IsLong v → ⊥
no_long (values.Long n) other long = other
no_long v other long = long

pub reference_is : (kind : FieldKind) (v : ImageValue) → IsNoNumber v → Suits kind v → kind ≡ kinds.Reference
reference_is kinds.Long v other suits = absurd (no_long v other suits)
reference_is kinds.Float v other suits = absurd suits
reference_is kinds.Double v other suits = absurd suits
reference_is kinds.Reference v other suits = refl
reference_is kind v other suits = absurd (no_int kind v other suits)
