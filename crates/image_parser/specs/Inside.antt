-- Faults of the region of a class among those of an image.
use Rattle.std.specs.Prelude.{ℕ}
use Rattle.image_parser.specs.declared.fault.RegionFault.{RegionFault}
use Rattle.image_parser.specs.declared.fault.RegionFault.TheVariants as faults
use Rattle.image_parser.specs.declared.fault.FlagsFault.{FlagsFault}
use Rattle.image_parser.specs.declared.fault.FlagsFault.TheVariants as flags
use Rattle.image_parser.specs.declared.fault.RegionsFault.{RegionsFault}
use Rattle.image_parser.specs.declared.fault.RegionsFault.TheVariants as regions

abbrev pub inside : ℕ → RegionFault → FlagsFault
inside c faults.Memory = flags.Memory
inside c faults.Truncated = flags.Truncated
inside c faults.Shape = flags.Shape c

abbrev pub among_regions : FlagsFault → RegionsFault
among_regions flags.Memory = regions.Memory
among_regions flags.Truncated = regions.Truncated
among_regions (flags.Shape c) = regions.Shape c
