-- What is said of an image, as text.
use Rattle.std.specs.Prelude.{◌≡◌, ℕ, zero, suc, ◌+◌, ◌*◌, ◌-◌, ◌/◌, ◌%◌, ◌<◌, List, [], ◌∷◌, ◌++◌, Bool, true, false}
use Rattle.std.specs.Prelude.{Option, Some, None, codes, decimal, drop, if◌then◌else◌, is_some, length, slice_index_or}
use Rattle.std.specs.List.{flat_map, range_with_len}
use Rattle.std.specs.Fmt.{digit_glyph}
use Rattle.vm_state.specs.SharedState.{Region}
use Rattle.region_shape.specs.Regions.{environment_of}
use Rattle.object_graph.specs.Images.{ImageTables, object_count}
use Rattle.image_writer.specs.ImageTexts.{region_sizes}
use Rattle.report.specs.Texts.{class_text}
use Rattle.inspection.specs.Largest.{AreLargest, size_at}

-- ---- the head

-- the number of 16 bits at byte 4
abbrev pub version_in : List ℕ → ℕ
version_in bytes = slice_index_or bytes 4 0 * 256 + slice_index_or bytes 5 0

-- a byte in two hexadecimal digits, in lower case
abbrev pub hex_of : ℕ → List ℕ
hex_of byte = digit_glyph false (byte / 16) ∷ digit_glyph false (byte % 16) ∷ []

-- the last 32 bytes
abbrev pub digest_in : List ℕ → List ℕ
digest_in bytes = drop (length bytes - 32) bytes

-- how many of the classes below a number have a region
abbrev pub built_below : ImageTables → ℕ → ℕ
built_below I zero = 0
built_below I (suc c) = built_below I c + (if is_some (environment_of I.regions c) then 1 else 0)

-- how many objects their regions hold
abbrev pub objects_below : ImageTables → ℕ → ℕ
objects_below I zero = 0
objects_below I (suc c) = objects_below I c + object_count (environment_of I.regions c)

-- the version, the digest and the length of bytes
abbrev pub identity_text : List ℕ → List ℕ
identity_text bytes = codes "version " ++ (decimal (version_in bytes)
    ++ (codes "\ndigest " ++ (flat_map hex_of (digest_in bytes)
    ++ (codes "\nbytes " ++ (decimal (length bytes) ++ codes "\n")))))

-- how many classes there are, how many of them have a region, and how many objects
abbrev pub counts_text : ImageTables → List ℕ
counts_text I = codes "classes " ++ (decimal (length I.program.family)
    ++ (codes " built " ++ (decimal (built_below I (length I.program.family))
    ++ (codes " objects " ++ (decimal (objects_below I (length I.program.family)) ++ codes "\n")))))

abbrev pub head_text : List ℕ → ImageTables → List ℕ
head_text bytes I = identity_text bytes ++ counts_text I

-- ---- classes

-- what an image holds of a class whose region takes so many bytes: it is built with so many objects, or is run
abbrev pub holding_text : Option Region → ℕ → List ℕ
holding_text None size = codes "run"
holding_text (Some region) size = codes "build objects " ++ (decimal (object_count (Some region))
    ++ (codes " bytes " ++ decimal size))

abbrev pub class_line : ImageTables → ℕ → List ℕ
class_line I c = class_text I.program.family c
    ++ (codes " " ++ (holding_text (environment_of I.regions c) (size_at (region_sizes I) c) ++ codes "\n"))

-- the lines of the classes below a number, in the order of their names
abbrev pub lines_below : ImageTables → ℕ → List ℕ
lines_below I zero = []
lines_below I (suc c) = lines_below I c ++ class_line I c

-- ---- the largest

abbrev pub largest_line : ImageTables → ℕ → List ℕ
largest_line I c =
    codes "largest " ++ (decimal (size_at (region_sizes I) c)
    ++ (codes " " ++ (class_text I.program.family c ++ codes "\n")))

-- ---- all

-- the head, a line for each class, and a line for each of these
abbrev pub text_on : List ℕ → ImageTables → List ℕ → List ℕ
text_on bytes I largest = head_text bytes I
    ++ (lines_below I (length I.program.family) ++ flat_map (largest_line I) largest)

-- What is said of an image, of the bytes that are its text: the head, a line for each class, and a line for each of the
-- ten classes with the most bytes.
pub record IsInspection (bytes : List ℕ) (I : ImageTables) (text : List ℕ) : Type 0 where
  pub largest : List ℕ
  pub are : AreLargest 10 (region_sizes I) largest
  pub is : text ≡ text_on bytes I largest
