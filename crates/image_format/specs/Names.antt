-- The names of classes as an image spells them: of a given or built-in class its name, of an array class the descriptor
-- of its type (JVMS 4.4.1).
use Rattle.std.specs.Prelude.{ℕ, List, [], ◌++◌, replicate, unwrap_or}
use Rattle.built_in.specs.ClassNames.{name_of_built_in}
use Rattle.built_in.specs.declared.class_id.ClassId.{ClassId}
use Rattle.built_in.specs.declared.class_id.ClassId.TheVariants as classes
use Rattle.loading.specs.ClassIds.{element_text, object_type}
use Rattle.loading.specs.Families.{Family, name_in}
use Rattle.image_format.specs.Classes.{ImageClass}
use Rattle.image_format.specs.Classes as image

abbrev pub class_name : Family → ClassId → List ℕ
class_name family (classes.Given c) = unwrap_or (name_in family c) []
class_name family (classes.BuiltIn b) = name_of_built_in b
class_name family (classes.Array a) = replicate a.dimensions 91 ++ unwrap_or (element_text family a.element) []

-- the name of the class of an object
abbrev pub name_of_class : Family → ImageClass → List ℕ
name_of_class family (image.Known class) = class_name family class
name_of_class family (image.UnknownArray dimensions name) = replicate dimensions 91 ++ object_type name
