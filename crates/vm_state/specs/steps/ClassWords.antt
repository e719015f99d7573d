-- Classes in few bytes.
use Rattle.std.specs.Prelude.{ℕ}
use Rattle.built_in.specs.declared.class_id.ClassId.{ClassId}
use Rattle.built_in.specs.declared.class_id.ClassId.TheVariants.{Given, BuiltIn, Array}
use Rattle.built_in.specs.declared.class_id.ElementType.{ElementType}
use Rattle.built_in.specs.declared.class_id.ElementType.TheVariants as element
use Rattle.vm_state.specs.declared.kept.ClassWord.{ClassWord}
use Rattle.vm_state.specs.declared.kept.Expected.{Expected}
use Rattle.vm_state.specs.declared.kept.Expected.TheVariants as expected
use Rattle.vm_state.specs.declared.kept.Primitive.{Primitive}
use Rattle.vm_state.specs.declared.kept.Primitive.TheVariants as primitive
use Rattle.vm_state.specs.declared.kept.ClassWord.TheVariants as word

abbrev pub array_of : ℕ → ElementType → ClassId
array_of dimensions e = Array (record { dimensions = dimensions; element = e })

-- The type of elements that are numbers.
abbrev pub element_of : Primitive → ElementType
element_of primitive.Boolean = element.Boolean
element_of primitive.Byte = element.Byte
element_of primitive.Char = element.Char
element_of primitive.Short = element.Short
element_of primitive.Int = element.Int
element_of primitive.Long = element.Long
element_of primitive.Float = element.Float
element_of primitive.Double = element.Double

abbrev pub class_of_word : ClassWord → ClassId
class_of_word (word.Given c) = Given c
class_of_word (word.BuiltIn c) = BuiltIn c
class_of_word (word.Numbers p) = array_of 1 (element_of p)
class_of_word (word.OfPrimitive d p) = array_of d (element_of p)
class_of_word (word.OfGiven d c) = array_of d (element.Given c)
class_of_word (word.OfBuiltIn d c) = array_of d (element.BuiltIn c)
class_of_word (word.OfUnknown d s) = array_of d (element.Unknown s)

-- The class that a store expects.
abbrev pub expected_class : Expected → ClassId
expected_class (expected.Given c) = Given c
expected_class (expected.ArrayOf p) = array_of 1 (element_of p)
