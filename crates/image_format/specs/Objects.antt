-- The objects of regions, by their names: a class and a number.
use Rattle.std.specs.Prelude.{ℕ, List, [], ◌∷◌, Option, Some, None, ◌==◌, if◌then◌else◌, slice_index_or}
use Rattle.image_format.specs.Values.{ImageValue}
use Rattle.image_format.specs.Regions.{ImageObject, ImageRegion, KeptObject}

abbrev pub region_in : List (Option ImageRegion) → ℕ → Option ImageRegion
region_in regions c = slice_index_or regions c None

-- what a class's static fields hold, and its objects; nothing where it has no region
abbrev pub statics_of : Option ImageRegion → List ImageValue
statics_of None = []
statics_of (Some region) = region.statics

abbrev pub objects_of : Option ImageRegion → List KeptObject
objects_of None = []
objects_of (Some region) = region.objects

-- the object of a number, if it is kept
abbrev pub object_with : List KeptObject → ℕ → Option ImageObject
object_with [] n = None
object_with (kept ∷ more) n = if kept.number == n then Some kept.object else object_with more n

-- the object of a class and a number
abbrev pub object_of : List (Option ImageRegion) → ℕ → ℕ → Option ImageObject
object_of regions c n = object_with (objects_of (region_in regions c)) n
