-- Readers of objects and regions.
use Rattle.std.specs.Prelude.{ℕ, Bool, ◌&&◌, nat_lt, nat_eq, List, [], Option, Some, None, Result, Ok, Err}
use Rattle.std.specs.Prelude.{cond, not}
use Rattle.std.specs.Int.{w8, w16, w32}
use Rattle.classfile.specs.reading.Numbers.{◌>>=◌}
use Rattle.built_in.specs.declared.class_id.ClassId.{ClassId}
use Rattle.built_in.specs.declared.class_id.ClassId.TheVariants as classes
use Rattle.loading.specs.Families.{Family}
use Rattle.program.specs.declared.runtime_constant.FieldKind.{FieldKind}
use Rattle.program.specs.declared.runtime_constant.FieldKind.TheVariants as kinds
use Rattle.program.specs.InstanceFields.{is_instantiable_in, slots_of, static_kinds}
use Rattle.image_format.specs.Values.{ImageValue}
use Rattle.image_format.specs.Classes.{ImageClass}
use Rattle.image_format.specs.Classes as image
use Rattle.image_format.specs.Regions.{ImageObject, ImageRegion, KeptObject}
use Rattle.image_format.specs.declared.version.Version.{Version}
use Rattle.image_format.specs.declared.version.Version.TheVariants as versions
use Rattle.image_format.specs.Elements.{kind_of_elements}
use Rattle.image_format.specs.Shapes.{has_objects, has_values}
use Rattle.image_parser.specs.declared.fault.RegionFault.{RegionFault}
use Rattle.image_parser.specs.declared.fault.RegionFault.TheVariants as faults
use Rattle.image_parser.specs.FirstFailing.{times}
use Rattle.image_parser.specs.RegionFaults.{above}
use Rattle.image_parser.specs.reading.Results.{number_at, run_at, each_at, chain_at}
use Rattle.image_parser.specs.reading.Values.{value_at, element_at}
use Rattle.image_parser.specs.reading.ClassNames.{class_of}
use Rattle.image_parser.specs.reading.Unknown.{unknown_of}

-- ---- classes

abbrev pub is_form : ℕ → ClassId → Bool
is_form form (classes.Array a) = nat_eq form 1
is_form form (classes.Given c) = nat_eq form 0
is_form form (classes.BuiltIn b) = nat_eq form 0

-- whether there can be objects of a class that has a name
abbrev pub may_be : Family → ClassId → Bool
may_be family (classes.Given c) = is_instantiable_in family c
may_be family (classes.BuiltIn b) = has_objects b
may_be family (classes.Array a) = has_values (kind_of_elements a)

abbrev pub good_class : Family → ℕ → ClassId → Bool
good_class family form class = is_form form class && may_be family class

abbrev pub known_if : Family → ℕ → ClassId → Result ImageClass RegionFault
known_if family form class = cond (good_class family form class) (Ok (image.Known class)) (Err faults.Shape)

abbrev pub unknown_if : ℕ → Option (ℕ × List ℕ) → Result ImageClass RegionFault
unknown_if form None = Err faults.Shape
unknown_if form (Some p) = cond (nat_eq form 1) (Ok (image.UnknownArray p.0 p.1)) (Err faults.Shape)

abbrev pub class_if : Family → ℕ → List ℕ → Option ClassId → Result ImageClass RegionFault
class_if family form name None = unknown_if form (unknown_of name)
class_if family form name (Some class) = known_if family form class

-- the class of a name, if there can be objects of this form
abbrev pub class_for : Family → ℕ → List ℕ → Result ImageClass RegionFault
class_for family form name = class_if family form name (class_of family name)

unfoldable pub name_at : List ℕ → Result (List ℕ × List ℕ) RegionFault
name_at bytes = number_at w16 bytes >>= λ count. run_at count.0 count.1

unfoldable pub class_at : Family → ℕ → List ℕ → Result (ImageClass × List ℕ) RegionFault
class_at family form bytes =
    name_at bytes >>= λ name. class_for family form name.0 >>= λ class. Ok (class, name.1)

-- ---- slots

abbrev pub Many : Type 0
Many = List ℕ → Result (List ImageValue × List ℕ) RegionFault

unfoldable pub elements_at : FieldKind → ℕ → Many
elements_at kind count = each_at (λ (one : Unit {0}). element_at kind) (times count) []

-- at most 2147483647 elements
unfoldable pub count_at : List ℕ → Result (ℕ × List ℕ) RegionFault
count_at bytes = number_at w32 bytes >>= λ count. cond (nat_lt count.0 2147483648) (Ok count) (Err faults.Shape)

unfoldable pub array_at : FieldKind → Many
array_at kind bytes = count_at bytes >>= λ count. elements_at kind count.0 count.1

abbrev pub known_slots_at : Family → ClassId → Many
known_slots_at family (classes.Given c) bytes = each_at value_at (slots_of family c) [] bytes
known_slots_at family (classes.BuiltIn b) bytes = Ok ([], bytes)
known_slots_at family (classes.Array a) bytes = array_at (kind_of_elements a) bytes

abbrev pub slots_at : Family → ImageClass → Many
slots_at family (image.Known class) bytes = known_slots_at family class bytes
slots_at family (image.UnknownArray dimensions name) bytes = array_at kinds.Reference bytes

-- ---- objects

abbrev pub object_of : ImageClass → List ImageValue → ImageObject
object_of class slots = record { class = class; slots = slots }

unfoldable pub formed_at : Family → ℕ → List ℕ → Result (ImageObject × List ℕ) RegionFault
formed_at family form bytes = class_at family form bytes >>= λ class. slots_at family class.0 class.1
    >>= λ slots. Ok (object_of class.0 slots.0, slots.1)

unfoldable pub form_at : List ℕ → Result (ℕ × List ℕ) RegionFault
form_at bytes = number_at w8 bytes >>= λ form. cond (nat_lt form.0 2) (Ok form) (Err faults.Shape)

unfoldable pub object_at : Family → List ℕ → Result (ImageObject × List ℕ) RegionFault
object_at family bytes = form_at bytes >>= λ form. formed_at family form.0 form.1

-- ---- objects with their numbers

abbrev pub is_number : ℕ → ℕ → ℕ → Bool
is_number count least n = not (nat_lt n least) && nat_lt n count

abbrev pub object_number_at : Version → ℕ → ℕ → List ℕ → Result (ℕ × List ℕ) RegionFault
object_number_at versions.One count least bytes = Ok (least, bytes)
object_number_at versions.Two count least bytes =
    number_at w32 bytes >>= λ n. cond (is_number count least n.0) (Ok n) (Err faults.Shape)

abbrev pub kept_of : ℕ → ImageObject → KeptObject
kept_of number object = record { number = number; object = object }

unfoldable pub kept_at : Version → Family → ℕ → ℕ → List ℕ → Result (KeptObject × List ℕ) RegionFault
kept_at version family count least bytes = object_number_at version count least bytes
    >>= λ n. object_at family n.1
    >>= λ object. Ok (kept_of n.0 object.0, object.1)

-- ---- regions

abbrev pub region_of : ℕ → List ImageValue → List KeptObject → ImageRegion
region_of count statics objects = record { count = count; statics = statics; objects = objects }

-- how many objects there are
abbrev pub many_at : Version → ℕ → List ℕ → Result (ℕ × List ℕ) RegionFault
many_at versions.One count bytes = Ok (count, bytes)
many_at versions.Two count bytes = number_at w32 bytes

unfoldable pub so_many_at : Version → Family → ℕ → ℕ → List ℕ → Result (List KeptObject × List ℕ) RegionFault
so_many_at version family count many = chain_at (kept_at version family count) above many 0 []

unfoldable pub objects_at : Version → Family → ℕ → List ℕ → Result (List KeptObject × List ℕ) RegionFault
objects_at version family count bytes =
    many_at version count bytes >>= λ many. so_many_at version family count many.0 many.1

unfoldable pub counted_region_at : Version → Family → ℕ → ℕ → List ℕ → Result (ImageRegion × List ℕ) RegionFault
counted_region_at version family c count bytes = each_at value_at (static_kinds family c) [] bytes
    >>= λ statics. objects_at version family count statics.1
    >>= λ objects. Ok (region_of count statics.0 objects.0, objects.1)

unfoldable pub region_at : Version → Family → ℕ → List ℕ → Result (ImageRegion × List ℕ) RegionFault
region_at version family c bytes =
    number_at w32 bytes >>= λ count. counted_region_at version family c count.0 count.1
