-- What an image has to be, and the bytes that are one.
use Rattle.std.specs.Prelude.{◌≡◌, ◌⊎◌, ℕ, ◌<◌, ◌^◌, true, List, length, Option, Some, is_some, slice_get}
use Rattle.std.specs.List.{All}
use Rattle.classfile.specs.Class.{IsClassFile}
use Rattle.classfile.specs.Text.{class_text}
use Rattle.loading.specs.declared.given.GivenClass.{GivenClass}
use Rattle.loading.specs.Families.{Family, IsFamily}
use Rattle.loading.specs.Files.{Links}
use Rattle.program.specs.Programs.{files_of}
use Rattle.image_format.specs.Values.{ImageValue}
use Rattle.image_format.specs.Values as values
use Rattle.image_format.specs.Regions.{ImageRegion, KeptObject}
use Rattle.image_format.specs.declared.version.Version.{Version}
use Rattle.image_format.specs.declared.version.Version.TheVariants as versions
use Rattle.image_format.specs.Objects.{object_of}
use Rattle.image_format.specs.Reached.{AreReached, IsDropped}
use Rattle.image_format.specs.Shapes.{HasShape}
use Rattle.image_format.specs.Texts.{image_text}

-- ---- names

-- A name is one of an object that there is.
abbrev pub IsThere : List (Option ImageRegion) → ImageValue → Type 0
IsThere regions (values.Object class number) = is_some (object_of regions class number) ≡ true
IsThere regions _ = Unit {0}

pub record NamesObjects (regions : List (Option ImageRegion)) (region : ImageRegion) : Type 0 where
  pub statics : All (IsThere regions) region.statics
  pub slots : All (λ (kept : KeptObject). All (IsThere regions) kept.object.slots) region.objects

-- ---- images

-- version 2 has no object that no static field reaches
abbrev pub NeedsAll : Version → List (Option ImageRegion) → Type 0
NeedsAll versions.One regions = Unit {0}
NeedsAll versions.Two regions = (c : ℕ) → AreReached regions c

-- a region for each class, or none; each has shape, and names objects alone that there are
pub record AreRegions (version : Version) (family : Family) (regions : List (Option ImageRegion)) : Type 0 where
  pub count : length regions ≡ length family
  pub shapes : (c : ℕ) (region : ImageRegion) → slice_get regions c ≡ Some (Some region)
      → HasShape version family c region
  pub names : (c : ℕ) (region : ImageRegion) → slice_get regions c ≡ Some (Some region) → NamesObjects regions region
  pub needed : NeedsAll version regions

-- each is a class file (JVMS 4.1)
abbrev pub AreClassFiles : Family → Type 0
AreClassFiles family = All (λ (given : GivenClass). IsClassFile given.file) family

-- class files that are shorter than 2^32 bytes
abbrev pub AreShort : Family → Type 0
AreShort family = All (λ (given : GivenClass). length (class_text given.file) < 2 ^ 32) family

-- The bytes are a text of this version: of class files that make one program, and by class its region.
pub record VersionText (version : Version) (bytes : List ℕ) (family : Family) (regions : List (Option ImageRegion))
    : Type 0 where
  pub classes : IsFamily family
  pub files : AreClassFiles family
  pub links : Links (files_of family)
  pub short : AreShort family
  pub fits : AreRegions version family regions
  pub spelled : bytes ≡ image_text version family regions

-- The bytes are the text of an image.
abbrev pub ImageText : List ℕ → Family → List (Option ImageRegion) → Type 0
ImageText = VersionText versions.Two

-- The bytes are a text of version 1. The image has the objects alone that are reached.
pub record OldText (bytes : List ℕ) (family : Family) (regions : List (Option ImageRegion)) : Type 0 where
  pub all : List (Option ImageRegion)
  pub text : VersionText versions.One bytes family all
  pub dropped : IsDropped all regions

-- the bytes are a text of the image, of either version
abbrev pub SomeText : List ℕ → Family → List (Option ImageRegion) → Type 0
SomeText bytes family regions = ImageText bytes family regions ⊎ OldText bytes family regions
