-- The text of an image.
use Rattle.std.specs.Prelude.{ℕ, List, [], Option, Some, None, length, map, option_map}
use Rattle.std.specs.List.{range_with_len}
use Rattle.loading.specs.Families.{Family}
use Rattle.region_shape.specs.Regions.{environment_of}
use Rattle.object_graph.specs.Images.{ImageTables}
use Rattle.image_format.specs.Regions.{ImageRegion}
use Rattle.image_format.specs.declared.version.Version.TheVariants as versions
use Rattle.image_format.specs.Texts.{image_text, region_text}
use Rattle.image_format.specs.Told.{told_region, told_regions}

-- by class, what its text tells of its regions
abbrev pub told_of : ImageTables → List (Option ImageRegion)
told_of I = told_regions I.program (environment_of I.regions)

-- the text of its class files and of what it tells of its regions
abbrev pub text_of : ImageTables → List ℕ
text_of I = image_text versions.Two I.program.family (told_of I)

-- the text of a region, if there is one
abbrev pub held_text : Family → Option ImageRegion → List ℕ
held_text family None = []
held_text family (Some region) = region_text versions.Two family region

-- how many bytes of the text are the region of a class
abbrev pub region_size : ImageTables → ℕ → ℕ
region_size I c =
    length (held_text I.program.family (option_map (told_region I.program c) (environment_of I.regions c)))

-- the same by class
abbrev pub region_sizes : ImageTables → List ℕ
region_sizes I = map (region_size I) (range_with_len 0 (length I.program.family))
