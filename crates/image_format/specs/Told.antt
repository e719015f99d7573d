-- What an image's text tells of the regions that the machine holds: a string by its units, an object by its class and
-- number.
use Rattle.std.specs.Prelude.{ℕ, List, [], ◌∷◌, length, map, Option, Some, None, option_map, slice_index_or}
use Rattle.std.specs.List.{flat_map, range_with_len}
use Rattle.classfile.specs.Printing.{units_of}
use Rattle.built_in.specs.declared.class_id.ArrayType.{ArrayType}
use Rattle.built_in.specs.declared.class_id.ClassId.{ClassId}
use Rattle.built_in.specs.declared.class_id.ClassId.TheVariants as classes
use Rattle.built_in.specs.declared.class_id.ElementType.{ElementType}
use Rattle.built_in.specs.declared.class_id.ElementType.TheVariants as elements
use Rattle.vm_state.specs.declared.value.Value.{Value}
use Rattle.vm_state.specs.declared.value.Value.TheVariants as machine
use Rattle.vm_state.specs.declared.object.Object.{Object}
use Rattle.vm_state.specs.SharedState.{Pool, Region}
use Rattle.program.specs.Tables.{Tables, statics_in}
use Rattle.image_format.specs.Values.{ImageValue}
use Rattle.image_format.specs.Values as values
use Rattle.image_format.specs.Classes.{ImageClass}
use Rattle.image_format.specs.Classes as image
use Rattle.image_format.specs.Regions.{ImageObject, ImageRegion, KeptObject}

-- the units of the string of a number
abbrev pub units_in : List (List ℕ) → ℕ → List ℕ
units_in strings s = units_of (slice_index_or strings s [])

-- A value, where these are the program's strings. No region of an image names an object of a thread.
abbrev pub told_value : List (List ℕ) → Value → ImageValue
told_value strings (machine.Int n) = values.Int n
told_value strings (machine.Long n) = values.Long n
told_value strings machine.Null = values.Null
told_value strings (machine.Text s) = values.Text (units_in strings s)
told_value strings (machine.OfClass c n) = values.Object c n
told_value strings (machine.OfThread t n) = values.Null
told_value strings machine.Out = values.Out

-- an array type, by its elements
abbrev pub told_array : List (List ℕ) → ArrayType → ElementType → ImageClass
told_array strings a (elements.Unknown n) = image.UnknownArray a.dimensions (slice_index_or strings n [])
told_array strings a element = image.Known (classes.Array a)

-- A class: one that is neither given nor built in by its name.
abbrev pub told_class : List (List ℕ) → ClassId → ImageClass
told_class strings (classes.Array a) = told_array strings a a.element
told_class strings class = image.Known class

abbrev pub told_object : List (List ℕ) → Object → ImageObject
told_object strings object =
    record { class = told_class strings object.class; slots = map (told_value strings) object.slots }

-- an object with its number
abbrev pub told_kept : List (List ℕ) → ℕ × Object → KeptObject
told_kept strings o = record { number = o.0; object = told_object strings o.1 }

abbrev pub told_if : List (List ℕ) → ℕ → Option Object → List KeptObject
told_if strings n None = []
told_if strings n (Some object) = told_kept strings (n, object) ∷ []

-- the objects that are held, in the order of their numbers
abbrev pub told_objects : List (List ℕ) → Pool → List KeptObject
told_objects strings pool = flat_map (λ n. told_if strings n (pool.at n)) (range_with_len 0 pool.count)

-- the first so many static fields
abbrev pub told_fields : List (List ℕ) → (ℕ → Value) → ℕ → List ImageValue
told_fields strings fields count = map (λ k. told_value strings (fields k)) (range_with_len 0 count)

-- the region of a class
abbrev pub told_region : Tables → ℕ → Region → ImageRegion
told_region P c region = record {
  count = region.pool.count;
  statics = told_fields P.strings region.fields (length (statics_in P c));
  objects = told_objects P.strings region.pool;
}

-- the regions of all classes of the program, by their numbers
abbrev pub told_regions : Tables → (ℕ → Option Region) → List (Option ImageRegion)
told_regions P regions = map (λ c. option_map (told_region P c) (regions c)) (range_with_len 0 (length P.family))
