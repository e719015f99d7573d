-- What is read of images, and images that are read back as they were.
use Rattle.std.specs.Prelude.{◌≡◌, ◌⊎◌, ℕ, List, Option, Result, IfErr, IfOk, MatchResult}
use Rattle.loading.specs.Families.{Family}
use Rattle.program.specs.Programs.{HasOwnStrings, IsProgram}
use Rattle.region_shape.specs.Wholes.{AreWhole}
use Rattle.region_shape.specs.Regions.{environment_of}
use Rattle.object_graph.specs.Images.{AreSmall, ImageTables}
use Rattle.image_format.specs.Images.{ImageText, SomeText}
use Rattle.image_format.specs.Regions.{ImageRegion}
use Rattle.image_parser.specs.declared.image_fault.ImageFault.{ImageFault}
use Rattle.image_parser.specs.declared.image_fault.ImageFault.TheVariants.{Memory}
use Rattle.image_parser.specs.ImageFaults.{Answers, ImageFails}
use Rattle.image_writer.specs.ImageTexts.{text_of, told_of}

-- An image of a linked program, with no strings but its class files': its regions tell those alone.
pub record IsOfOwnStrings (I : ImageTables) : Type 0 where
  pub program : IsProgram I.program
  pub own_strings : HasOwnStrings I.program
  pub whole : AreWhole I.program (environment_of I.regions)
  pub small : AreSmall I.program (environment_of I.regions)

-- Two images are of one program, and hold the same of each class.
pub record IsSameImage (I J : ImageTables) : Type 0 where
  pub program : J.program ≡ I.program
  pub regions : environment_of J.regions ≡ environment_of I.regions

-- this image is answered, told as it is, unless memory runs out
abbrev pub AnswersImage : Result ImageTables ImageFault → Family → List (Option ImageRegion) → Type 0
AnswersImage result family regions =
    MatchResult result (λ J. (J.program.family ≡ family) × (told_of J ≡ regions)) (λ fault. fault ≡ Memory)

-- What is answered of bytes that may be an image.
pub record IsRead (bytes : List ℕ) (result : Result ImageTables ImageFault) : Type 0 where
  -- What is accepted is a text, of either version, of the image that is answered.
  pub text : IfOk result (λ J. SomeText bytes J.program.family (told_of J))
  -- Every text of an image, of either version, is accepted as that image, unless memory runs out.
  pub only_text : (family : Family) (regions : List (Option ImageRegion)) → SomeText bytes family regions
      → AnswersImage result family regions
  -- What is written of an image is read back as that image, unless memory runs out.
  pub written : (I : ImageTables) → ImageText (text_of I) I.program.family (told_of I) → bytes ≡ text_of I
      → AnswersImage result I.program.family (told_of I)
  -- A text, of either version, of an image of a linked program, with no strings but its class files', is read as that
  -- image.
  pub same : (I : ImageTables) → IsOfOwnStrings I → SomeText bytes I.program.family (told_of I)
      → IfOk result (IsSameImage I)
  -- What is refused is refused for what is wrong first, or because memory runs out.
  pub fault : IfErr result (λ fault. (fault ≡ Memory) ⊎ ImageFails bytes fault)
  -- Everything else is refused for what is wrong first, unless memory runs out.
  pub only_fault : (fault : ImageFault) → ImageFails bytes fault → Answers result fault
