-- What is read of whole images.
use Rattle.std.specs.Prelude.{◌≡◌, ◌⊎◌, ℕ, List, Option, Result, IfErr, IfOk, MatchResult}
use Rattle.loading.specs.Families.{Family}
use Rattle.program.specs.Programs.{HasOwnStrings, IsProgram}
use Rattle.program.specs.Tables.{Tables}
use Rattle.region_shape.specs.declared.regions.Region.{Region}
use Rattle.region_shape.specs.Regions.{environment_of}
use Rattle.image_format.specs.Images.{VersionText}
use Rattle.image_format.specs.Regions.{ImageRegion}
use Rattle.image_format.specs.Told.{told_regions}
use Rattle.image_format.specs.declared.version.Version.{Version}
use Rattle.image_parser.specs.declared.image.Parsed.{Parsed}
use Rattle.image_parser.specs.declared.image_fault.ImageFault.{ImageFault}
use Rattle.image_parser.specs.declared.image_fault.ImageFault.TheVariants.{Memory}
use Rattle.image_parser.specs.ImageFaults.{Answers, ImageFails}
use Rattle.image_parser.specs.reading.Flagged.{HoldsTold}

-- what is told of the regions
abbrev pub told_in : Parsed → List (Option ImageRegion)
told_in parsed = told_regions parsed.program (environment_of parsed.regions)

-- The program is that of class files, with the strings behind theirs that the regions hold.
pub record IsOfFiles (P : Tables) (regions : List (Option Region)) : Type 0 where
  pub linked : Tables
  pub program : IsProgram linked
  pub own_strings : HasOwnStrings linked
  pub holds : HoldsTold linked P (told_regions P (environment_of regions)) (environment_of regions)

-- What is answered of bytes that may be an image.
pub record IsParsed (bytes : List ℕ) (result : Result Parsed ImageFault) : Type 0 where
  -- What is accepted is a text, of the version that is answered, of the class files and of what is told of the regions.
  pub text : IfOk result
      (λ parsed. VersionText parsed.version bytes parsed.program.family (told_in parsed))
  -- The program is that of these class files, with the strings that the regions hold.
  pub program : IfOk result (λ parsed. IsProgram parsed.program)
  pub files : IfOk result (λ parsed. IsOfFiles parsed.program parsed.regions)
  -- Every text of an image, of either version, is accepted as that image, unless memory runs out.
  pub only_text : (version : Version) (family : Family) (regions : List (Option ImageRegion))
      → VersionText version bytes family regions
      → MatchResult result
      (λ parsed. (parsed.version ≡ version) × (parsed.program.family ≡ family) × (told_in parsed ≡ regions))
      (λ fault. fault ≡ Memory)
  -- What is refused is refused for what is wrong first, or because memory runs out.
  pub fault : IfErr result (λ fault. (fault ≡ Memory) ⊎ ImageFails bytes fault)
  -- Everything else is refused for what is wrong first, unless memory runs out.
  pub only_fault : (fault : ImageFault) → ImageFails bytes fault → Answers result fault
