-- What is wrong first with bytes that are no image.
use Rattle.std.specs.Prelude.{◌≡◌, ℕ, ◌<◌, ◌^◌, List, [], ◌++◌, length, Option, unwrap_or, ◌⊎◌, Result, Err}
use Rattle.std.specs.List.{flat_map}
use Rattle.classfile.specs.ClassFile.{ClassFile}
use Rattle.classfile.specs.Printing.{units_of}
use Rattle.classfile.specs.Spelling.{u4}
use Rattle.loading.specs.declared.fault.LinkFault.{LinkFault}
use Rattle.loading.specs.declared.fault.LinkFault.TheVariants as link_faults
use Rattle.loading.specs.Families.{Family, IsFamily, IsFamilyOf, name_in}
use Rattle.loading.specs.Files.{LinkFails, Links}
use Rattle.image_format.specs.Regions.{ImageRegion}
use Rattle.image_format.specs.declared.version.Version.{Version}
use Rattle.program.specs.Programs.{files_of}
use Rattle.image_format.specs.Images.{AreRegions, AreClassFiles, AreShort, SomeText}
use Rattle.image_format.specs.Texts.{given_text, flag_text}
use Rattle.image_parser.specs.declared.fault.FilesFault.{FilesFault}
use Rattle.image_parser.specs.declared.fault.FilesFault.TheVariants as file_faults
use Rattle.image_parser.specs.declared.fault.RegionsFault.{RegionsFault}
use Rattle.image_parser.specs.declared.fault.RegionsFault.TheVariants as region_faults
use Rattle.image_parser.specs.declared.header.HeaderFault.{HeaderFault}
use Rattle.image_parser.specs.declared.header.HeaderFault.TheVariants as header_faults
use Rattle.image_parser.specs.declared.image_fault.ImageFault.{ImageFault}
use Rattle.image_parser.specs.declared.image_fault.ImageFault.TheVariants as faults
use Rattle.image_parser.specs.AllRegions.{RegionsFail}
use Rattle.image_parser.specs.FileFaults.{AreFiles, FilesFail}
use Rattle.image_parser.specs.HeaderFaults.{HeaderFails, IsFramed}

-- ---- faults of parts among those of images

abbrev pub of_header : HeaderFault → ImageFault
of_header header_faults.Truncated = faults.Truncated
of_header header_faults.Magic = faults.Magic
of_header header_faults.Version = faults.Version
of_header header_faults.Digest = faults.Digest

abbrev pub of_files : FilesFault → ImageFault
of_files file_faults.Memory = faults.Memory
of_files file_faults.Truncated = faults.Truncated
of_files (file_faults.Class index fault) = faults.Class index fault
of_files file_faults.Order = faults.Order

abbrev pub of_link : LinkFault → ImageFault
of_link link_faults.Memory = faults.Memory
of_link fault = faults.Link fault

-- the name of a class, by its units
abbrev pub name_units : Family → ℕ → List ℕ
name_units family c = units_of (unwrap_or (name_in family c) [])

-- classes by their names
abbrev pub of_regions : Family → RegionsFault → ImageFault
of_regions family region_faults.Memory = faults.Memory
of_regions family region_faults.Truncated = faults.Truncated
of_regions family (region_faults.Shape c) = faults.Shape (name_units family c)
of_regions family region_faults.Extra = faults.Extra
of_regions family (region_faults.Name c) = faults.Name (name_units family c)
of_regions family (region_faults.Idle c) = faults.Idle (name_units family c)

-- ---- what stands between the version and the digest

-- the count of the class files, these, and the rest
pub record HasFiles (parts : List ℕ) (files : List ClassFile) (rest : List ℕ) : Type 0 where
  pub text : List ℕ
  pub few : length files < 2 ^ 32
  pub are : AreFiles (length files) files text
  pub spelled : parts ≡ u4 (length files) ++ (text ++ rest)

-- the same, of files that make a program of this family
pub record IsLinked (parts : List ℕ) (family : Family) (rest : List ℕ) : Type 0 where
  pub files : List ClassFile
  pub has : HasFiles parts files rest
  pub links : Links files
  pub of : IsFamilyOf files family

-- class files that make one program, and the regions of its classes, all told
pub record PartsText (version : Version) (parts : List ℕ) (family : Family) (all : List (Option ImageRegion))
    : Type 0 where
  pub classes : IsFamily family
  pub files : AreClassFiles family
  pub links : Links (files_of family)
  pub short : AreShort family
  pub fits : AreRegions version family all
  pub spelled : parts
      ≡ u4 (length family) ++ (flat_map given_text family ++ flat_map (flag_text version family) all)

-- the first of the class files that fails, then the program that they do not make, then what stands after them
pub data PartsFail (version : Version) (parts : List ℕ) : ImageFault → Type 0 where
  files : (count : ℕ) (rest : List ℕ) (e : FilesFault) → count < 2 ^ 32 → parts ≡ u4 count ++ rest
      → FilesFail count rest e → PartsFail version parts (of_files e)
  link : (files : List ClassFile) (rest : List ℕ) (e : LinkFault) → HasFiles parts files rest → LinkFails files e
      → PartsFail version parts (of_link e)
  regions : (family : Family) (rest : List ℕ) (e : RegionsFault) → IsLinked parts family rest
      → RegionsFail version family rest e → PartsFail version parts (of_regions family e)

-- ---- images

-- class files in the order of their names, and the regions of their classes
abbrev pub ImageParts : Type 0
ImageParts = Family × List (Option ImageRegion)

abbrev pub IsImage : List ℕ → ImageParts → Type 0
IsImage bytes image = SomeText bytes image.0 image.1

-- what is wrong round the parts, and then in them
pub data ImageFails (bytes : List ℕ) : ImageFault → Type 0 where
  frame : (e : HeaderFault) → HeaderFails bytes e → ImageFails bytes (of_header e)
  within : (version : Version) (parts : List ℕ) (fault : ImageFault) → IsFramed bytes version parts
      → PartsFail version parts fault → ImageFails bytes fault

-- this fault is answered, unless memory ran out
abbrev pub Answers : {X : Type 0} → Result X ImageFault → ImageFault → Type 0
Answers result fault = (result ≡ Err fault) ⊎ (result ≡ Err faults.Memory)
