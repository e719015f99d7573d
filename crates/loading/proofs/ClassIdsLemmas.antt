-- The name of an array class says how many dimensions of which element type it has (JVMS 4.3.2, 4.4.1).
use Rattle.std.proofs.Common.{◌≡◌, ◌≢◌, ℕ, zero, suc, ◌≤◌, List, [], ◌∷◌, ◌++◌, ◌-◌, length, take, drop, replicate}
use Rattle.std.proofs.Common.{Option, Some, None}
use Rattle.std.proofs.Common.{arith, refl, sym, ap, ◌∙◌, option_map}
use Rattle.std.proofs.lemmas.Grind.{common_steps}
use Rattle.classfile.specs.Class.{IsNoArray}
use Rattle.built_in.specs.declared.class_id.ArrayType.{ArrayType}
use Rattle.built_in.specs.declared.class_id.ClassId.TheVariants as class
use Rattle.built_in.specs.declared.class_id.ElementType.{ElementType}
use Rattle.built_in.specs.declared.class_id.ElementType.TheVariants as element
use Rattle.built_in.specs.ClassNames.{name_of_built_in}
use Rattle.loading.specs.Families.{Family, name_in}
use Rattle.loading.specs.ClassIds.{object_type, element_text, IsNamed}

other_letter : (first : ℕ) (others text : List ℕ) → (first ≡ 91 → ⊥) → Some (first ∷ others) ≡ Some text
    → IsNoArray text
other_letter first others text differs e rest is = let same : first ≡ 91 = cc in differs same

given_is_no_array : (o : Option (List ℕ)) (text : List ℕ) → option_map object_type o ≡ Some text → IsNoArray text
given_is_no_array None text e = absurd cc
given_is_no_array (Some name) text e = other_letter 76 (name ++ 59 ∷ []) text (λ n. omega arith) e

pub element_is_no_array : (family : Family) (e : ElementType) (text : List ℕ) → element_text family e ≡ Some text
    → IsNoArray text
element_is_no_array family element.Boolean text h = other_letter 90 [] text (λ n. omega arith) h
element_is_no_array family element.Byte text h = other_letter 66 [] text (λ n. omega arith) h
element_is_no_array family element.Char text h = other_letter 67 [] text (λ n. omega arith) h
element_is_no_array family element.Short text h = other_letter 83 [] text (λ n. omega arith) h
element_is_no_array family element.Int text h = other_letter 73 [] text (λ n. omega arith) h
element_is_no_array family element.Long text h = other_letter 74 [] text (λ n. omega arith) h
element_is_no_array family element.Float text h = other_letter 70 [] text (λ n. omega arith) h
element_is_no_array family element.Double text h = other_letter 68 [] text (λ n. omega arith) h
element_is_no_array family (element.Given c) text h = given_is_no_array (name_in family c) text h
element_is_no_array family (element.BuiltIn b) text h =
    other_letter 76 (name_of_built_in b ++ 59 ∷ []) text (λ n. omega arith) h
element_is_no_array family (element.Unknown n) text h = absurd cc

pub same_count : (m n : ℕ) (s t : List ℕ) → IsNoArray s → IsNoArray t → replicate m 91 ++ s ≡ replicate n 91 ++ t
    → (m ≡ n) × (s ≡ t)
same_count zero zero s t p q e = (refl, e)
same_count zero (suc n) s t p q e = absurd (p (replicate n 91 ++ t) e)
same_count (suc m) zero s t p q e = absurd (q (replicate m 91 ++ s) (sym e))
same_count (suc m) (suc n) s t p q e =
    let rest : replicate m 91 ++ s ≡ replicate n 91 ++ t = cc in
    let same = same_count m n s t p q rest in
    (ap suc same.0, same.1)

-- so many `[`, and what stands after them
pub record Split (name : List ℕ) (count : ℕ) (text : List ℕ) : Type 0 where
  pub brackets : name ≡ replicate count 91 ++ text
  pub whole : IsNoArray text

-- what stands after them, as a slice up to the end
pub split_at : (name : List ℕ) (count : ℕ) → name ≡ replicate count 91 ++ drop count name → IsNoArray (drop count name)
    → Split name count (take (length name - count) (drop count name))
split_at name count brackets whole =
    let all : take (length name - count) (drop count name) ≡ drop count name = grind (arith, common_steps) in
    record {
      brackets = brackets ∙ ap (λ (text : List ℕ). replicate count 91 ++ text) (sym all);
      whole = λ rest is. whole rest (sym all ∙ is);
    }

-- an array class of this name has so many dimensions of an element type with this descriptor
array_is : (family : Family) (name : List ℕ) (count : ℕ) (text : List ℕ) → Split name count text → (a : ArrayType)
    → IsNamed family name (class.Array a) → (1 ≤ count) × (count ≤ 255) × (element_text family a.element ≡ Some text)
array_is family name count text split a (IsNamed.array {text = other} low high at is) =
    let end = element_is_no_array family a.element other at in
    let same = same_count a.dimensions count other text end split.whole (sym is ∙ split.brackets) in
    (omega arith, omega arith, at ∙ ap Some same.1)

-- a name whose parts are no array type's
pub no_array : (family : Family) (name : List ℕ) (count : ℕ) (text : List ℕ) → Split name count text
    → (1 ≤ count → count ≤ 255 → (e : ElementType) → element_text family e ≢ Some text) → (a : ArrayType)
    → IsNamed family name (class.Array a) → ⊥
no_array family name count text split none a named =
    let parts = array_is family name count text split a named in
    none parts.0 parts.1 a.element parts.2

-- a name whose parts are those of an array type
pub named_by_parts : (family : Family) (name : List ℕ) (count : ℕ) (text : List ℕ) → Split name count text
    → (a : ArrayType)
    → ((1 ≤ count) × (count ≤ 255)) × (a.dimensions ≡ count) → element_text family a.element ≡ Some text
    → IsNamed family name (class.Array a)
named_by_parts family name count text split a h at =
    let low : 1 ≤ a.dimensions = omega (arith, h.0.0, h.1) in
    let high : a.dimensions ≤ 255 = omega (arith, h.0.1, h.1) in
    IsNamed.array low high at (split.brackets ∙ ap (λ (n : ℕ). replicate n 91 ++ text) (sym h.1))
