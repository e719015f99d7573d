-- Letters that are descriptors of element types (JVMS 4.3.2).
use Rattle.std.specs.Prelude.{◌≡◌, ◌≢◌, ℕ, [], ◌∷◌, Some}
use Rattle.built_in.specs.declared.class_id.ElementType.{ElementType}
use Rattle.loading.specs.Families.{Family}
use Rattle.loading.specs.ClassIds.{element_text}

-- a letter alone is the descriptor of an element type (JVMS 4.3.2)
abbrev pub IsBaseType : ℕ → ElementType → Type 0
IsBaseType letter e = (family : Family) → element_text family e ≡ Some (letter ∷ [])

-- a letter alone is no descriptor
abbrev pub IsNoBaseType : ℕ → Type 0
IsNoBaseType letter = (family : Family) (e : ElementType) → element_text family e ≢ Some (letter ∷ [])
