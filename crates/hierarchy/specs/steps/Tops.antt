-- The built-in class above a given one (JVMS 4.1, super_class).
use Rattle.std.specs.Prelude.{◌≡◌, ℕ, List, Some, length, slice_get}
use Rattle.built_in.specs.declared.class_id.BuiltIn.{BuiltIn}
use Rattle.loading.specs.Families.{Family, superclass_in}
use Rattle.loading.specs.declared.given.Superclass.TheVariants as super

-- the built-in class at the end of a class's chain of superclasses
pub data IsTop (family : Family) : ℕ → BuiltIn → Type 0 where
  direct : {c : ℕ} {b : BuiltIn} → superclass_in family c ≡ Some (super.BuiltIn b) → IsTop family c b
  further : {c d : ℕ} {b : BuiltIn} → superclass_in family c ≡ Some (super.Given d) → IsTop family d b
      → IsTop family c b

-- by class
pub record AreTops (family : Family) (tops : List BuiltIn) : Type 0 where
  pub count : length tops ≡ length family
  pub each : (c : ℕ) (b : BuiltIn) → slice_get tops c ≡ Some b → IsTop family c b
