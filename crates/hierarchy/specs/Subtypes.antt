-- Which classes are below which, as checkcast, instanceof, aastore and handlers ask it (JVMS 6.5; 4.10.1.2).
use Rattle.std.specs.Prelude.{ℕ, ◌==◌, nat_lt, Bool, false, ◌||◌, ◌&&◌, List, [], ◌∷◌, Option, Some, None}
use Rattle.std.specs.Prelude.{if◌then◌else◌}
use Rattle.built_in.specs.Subclasses.{is_same_built_in, is_built_in_below}
use Rattle.built_in.specs.declared.class_id.ArrayType.{ArrayType}
use Rattle.built_in.specs.declared.class_id.BuiltIn.{BuiltIn}
use Rattle.built_in.specs.declared.class_id.BuiltIn.TheVariants as builtins
use Rattle.built_in.specs.declared.class_id.ClassId.{ClassId}
use Rattle.built_in.specs.declared.class_id.ClassId.TheVariants as class
use Rattle.built_in.specs.declared.class_id.ElementType.{ElementType}
use Rattle.built_in.specs.declared.class_id.ElementType.TheVariants as element
use Rattle.loading.specs.declared.given.Superclass.{Superclass}
use Rattle.loading.specs.declared.given.Superclass.TheVariants as super
use Rattle.loading.specs.Families.{Family, superclass_in}
use Rattle.hierarchy.specs.Initialization.{given_superclasses}
use Rattle.hierarchy.specs.Subclasses.{is_above}

-- ---- given classes

-- the last of a class and those that follow it
abbrev pub last_of : ℕ → List ℕ → ℕ
last_of c [] = c
last_of c (d ∷ ds) = last_of d ds

-- what stands above the last given class on a class's chain of superclasses: a built-in class
abbrev pub end_of_chain : Family → ℕ → Option Superclass
end_of_chain family c = superclass_in family (last_of c (given_superclasses family c))

abbrev pub is_end_below : BuiltIn → Option Superclass → Bool
is_end_below other (Some (super.BuiltIn top)) = is_built_in_below top other
is_end_below other (Some (super.Given d)) = false
is_end_below other None = false

abbrev pub is_given_below : Family → ℕ → ClassId → Bool
is_given_below family c (class.Given d) = c == d || is_above family c d
is_given_below family c (class.BuiltIn other) = is_end_below other (end_of_chain family c)
is_given_below family c (class.Array other) = false

-- ---- classes that are no array classes

abbrev pub is_built_in_class_below : BuiltIn → ClassId → Bool
is_built_in_class_below b (class.BuiltIn other) = is_built_in_below b other
is_built_in_class_below b (class.Given d) = false
is_built_in_class_below b (class.Array other) = false

abbrev pub is_class_below : Family → ClassId → ClassId → Bool
is_class_below family (class.Given c) other = is_given_below family c other
is_class_below family (class.BuiltIn b) other = is_built_in_class_below b other
is_class_below family (class.Array a) other = false

-- ---- array classes

-- the given or built-in class of an element type
abbrev pub class_of_element : ElementType → Option ClassId
class_of_element (element.Given c) = Some (class.Given c)
class_of_element (element.BuiltIn b) = Some (class.BuiltIn b)
class_of_element _ = None

-- the number of a primitive type (JVMS 6.5, newarray)
abbrev pub type_code : ElementType → ℕ
type_code element.Boolean = 4
type_code element.Char = 5
type_code element.Float = 6
type_code element.Double = 7
type_code element.Byte = 8
type_code element.Short = 9
type_code element.Int = 10
type_code element.Long = 11
type_code _ = 0

-- Of primitive types it is asked whether they are the same.
abbrev pub are_elements_below : Family → Bool → Option ClassId → Option ClassId → Bool
are_elements_below family same None None = same
are_elements_below family same (Some a) (Some b) = is_class_below family a b
are_elements_below family same None (Some b) = false
are_elements_below family same (Some a) None = false

abbrev pub is_object : BuiltIn → Bool
is_object b = is_same_built_in b builtins.Object

-- A class that is neither given nor built in is below itself and Object: there is no file to say what else.
abbrev pub is_unknown_below : ℕ → ElementType → Bool
is_unknown_below n (element.Unknown other) = n == other
is_unknown_below n (element.BuiltIn b) = is_object b
is_unknown_below n _ = false

-- no other type is below such a class
abbrev pub is_element_below : Family → ElementType → ElementType → Bool
is_element_below family (element.Unknown n) other = is_unknown_below n other
is_element_below family e (element.Unknown n) = false
is_element_below family e other =
    are_elements_below family (type_code e == type_code other) (class_of_element e) (class_of_element other)

abbrev pub is_object_element : ElementType → Bool
is_object_element (element.BuiltIn b) = is_object b
is_object_element _ = false

-- an array with more dimensions than another one has arrays as its elements, which are below Object
abbrev pub is_array_type_below : Family → ArrayType → ArrayType → Bool
is_array_type_below family a other =
    if a.dimensions == other.dimensions then is_element_below family a.element other.element
    else (nat_lt other.dimensions a.dimensions && is_object_element other.element)

abbrev pub is_array_below : Family → ArrayType → ClassId → Bool
is_array_below family a (class.Array other) = is_array_type_below family a other
is_array_below family a (class.BuiltIn b) = is_object b
is_array_below family a (class.Given d) = false

-- ---- all classes

-- whether the first class is the second one, or below it
abbrev pub is_below : Family → ClassId → ClassId → Bool
is_below family (class.Array a) other = is_array_below family a other
is_below family (class.Given c) other = is_given_below family c other
is_below family (class.BuiltIn b) other = is_built_in_class_below b other
