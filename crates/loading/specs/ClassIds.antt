-- The class that a name stands for (JVMS 4.4.1, 5.3).
use Rattle.std.specs.Prelude.{◌≡◌, ℕ, ◌≤◌, List, [], ◌∷◌, ◌++◌, Option, Some, None, codes, replicate, option_map}
use Rattle.built_in.specs.declared.class_id.ClassId.{ClassId}
use Rattle.built_in.specs.declared.class_id.ClassId.TheVariants as class
use Rattle.built_in.specs.declared.class_id.ArrayType.{ArrayType}
use Rattle.built_in.specs.declared.class_id.ElementType.{ElementType}
use Rattle.built_in.specs.declared.class_id.ElementType.TheVariants as element
use Rattle.built_in.specs.declared.class_id.BuiltIn.{BuiltIn}
use Rattle.built_in.specs.ClassNames.{name_of_built_in}
use Rattle.loading.specs.Families.{Family, name_in}

-- a class in a descriptor
abbrev pub object_type : List ℕ → List ℕ
object_type name = 76 ∷ (name ++ 59 ∷ [])

-- The descriptor of an element type (JVMS 4.3.2). A family names none that is neither given nor built in.
abbrev pub element_text : Family → ElementType → Option (List ℕ)
element_text family element.Boolean = Some (codes "Z")
element_text family element.Byte = Some (codes "B")
element_text family element.Char = Some (codes "C")
element_text family element.Short = Some (codes "S")
element_text family element.Int = Some (codes "I")
element_text family element.Long = Some (codes "J")
element_text family element.Float = Some (codes "F")
element_text family element.Double = Some (codes "D")
element_text family (element.Given c) = option_map object_type (name_in family c)
element_text family (element.BuiltIn b) = Some (object_type (name_of_built_in b))
element_text family (element.Unknown n) = None

-- The class has this name: an array class the descriptor of its type.
pub data IsNamed (family : Family) (name : List ℕ) : ClassId → Type 0 where
  given : {c : ℕ} → name_in family c ≡ Some name → IsNamed family name (class.Given c)
  built_in : {b : BuiltIn} → name_of_built_in b ≡ name → IsNamed family name (class.BuiltIn b)
  array : {a : ArrayType} {text : List ℕ} → 1 ≤ a.dimensions → a.dimensions ≤ 255
      → element_text family a.element ≡ Some text
      → name ≡ replicate a.dimensions 91 ++ text → IsNamed family name (class.Array a)

-- A name stands for this class, or for none: then it is neither given nor built in, nor an array of such.
abbrev pub StandsFor : Family → List ℕ → Option ClassId → Type 0
StandsFor family name None = (x : ClassId) → IsNamed family name x → ⊥
StandsFor family name (Some x) = IsNamed family name x
