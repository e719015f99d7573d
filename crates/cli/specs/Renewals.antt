-- From an image's bytes to those of the same image in the version that is written.
use Rattle.std.specs.Prelude.{ℕ, List, Option}
use Rattle.loading.specs.Families.{Family}
use Rattle.image_format.specs.Regions.{ImageRegion}
use Rattle.image_format.specs.Images.{ImageText, SomeText}
use Rattle.image_parser.specs.ImageFaults.{ImageFails}
use Rattle.image_parser.specs.declared.image_fault.ImageFault.{ImageFault}
use Rattle.cli.specs.declared.fault.CommandFault.{CommandFault}
use Rattle.cli.specs.declared.fault.CommandFault.TheVariants.{Image}

-- The bytes are a text of an image, of either version, and the others are the text of that image.
pub record IsRenewed (bytes renewed : List ℕ) : Type 0 where
  pub family : Family
  pub regions : List (Option ImageRegion)
  pub read : SomeText bytes family regions
  pub written : ImageText renewed family regions

-- why there is nothing to write, but for want of memory: the bytes are no image
pub data IsNoImage (bytes : List ℕ) : CommandFault → Type 0 where
  no_image : {fault : ImageFault} → ImageFails bytes fault → IsNoImage bytes (Image fault)
