-- Bytes are the text of one thing or have one fault, and never both.
use Rattle.std.specs.Prelude.{◌≡◌, ◌⊎◌}

pub record TextOrFault {X E : Type 0} (IsText : X → Type 0) (Fails : E → Type 0) : Type 0 where
  pub some : ((x : X) × IsText x) ⊎ ((fault : E) × Fails fault)
  pub not_both : (x : X) (fault : E) → IsText x → Fails fault → ⊥
  pub one_text : (x y : X) → IsText x → IsText y → x ≡ y
  pub one_fault : (f g : E) → Fails f → Fails g → f ≡ g
