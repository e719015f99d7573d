-- One field gets its constant, if it has one.
use Rattle.std.specs.Prelude.{ℕ, Option, Some, None}
use Rattle.vm_state.specs.declared.value.Value.{Value}
use Rattle.vm_state.specs.Statics.{with_value}

abbrev pub with_constant : (ℕ → Value) → ℕ → Option Value → ℕ → Value
with_constant fields f None g = fields g
with_constant fields f (Some v) g = with_value fields f v g
