-- What stands after the class files of an image: the flags and regions of all classes, and nothing more.
use Rattle.std.specs.Prelude.{◌≡◌, ◌≢◌, ℕ, List, [], ◌++◌, Option}
use Rattle.std.specs.List.{All, flat_map}
use Rattle.loading.specs.Families.{Family}
use Rattle.image_format.specs.Regions.{ImageRegion}
use Rattle.image_format.specs.declared.version.Version.{Version}
use Rattle.image_format.specs.declared.version.Version.TheVariants as versions
use Rattle.image_format.specs.Images.{AreRegions}
use Rattle.image_format.specs.Reached.{IsDropped}
use Rattle.image_format.specs.Texts.{flag_text}
use Rattle.image_parser.specs.declared.fault.FlagsFault.{FlagsFault}
use Rattle.image_parser.specs.declared.fault.RegionsFault.{RegionsFault}
use Rattle.image_parser.specs.declared.fault.RegionsFault.TheVariants as faults
use Rattle.image_parser.specs.Inside.{among_regions}
use Rattle.image_parser.specs.FlagFaults.{AreFlags, FlagsFail}
use Rattle.image_parser.specs.Nameless.{FlagNames, IsNameless}
use Rattle.image_parser.specs.Idle.{IsIdle}

-- the bytes are the text of regions of the classes
pub record RegionsText (version : Version) (family : Family) (bytes : List ℕ) (regions : List (Option ImageRegion))
    : Type 0 where
  pub fits : AreRegions version family regions
  pub spelled : bytes ≡ flat_map (flag_text version family) regions

-- What is wrong first: a part, then what is left, then a name, then, in version 2, an object that is not reached.
pub data RegionsFail (version : Version) (family : Family) (bytes : List ℕ) : RegionsFault → Type 0 where
  part : (e : FlagsFault) → FlagsFail version family bytes e → RegionsFail version family bytes (among_regions e)
  extra : (regions : List (Option ImageRegion)) (text rest : List ℕ) → AreFlags version family regions text
      → bytes ≡ text ++ rest → rest ≢ [] → RegionsFail version family bytes faults.Extra
  name : (regions : List (Option ImageRegion)) {c : ℕ} → AreFlags version family regions bytes
      → IsNameless regions c → RegionsFail version family bytes (faults.Name c)
  idle : (regions : List (Option ImageRegion)) {c : ℕ} → version ≡ versions.Two
      → AreFlags version family regions bytes → All (FlagNames regions) regions → IsIdle regions c
      → RegionsFail version family bytes (faults.Idle c)

-- the regions of an image whose text tells these: of version 1 without the objects that are not reached
abbrev pub IsShown : Version → List (Option ImageRegion) → List (Option ImageRegion) → Type 0
IsShown versions.One all regions = IsDropped all regions
IsShown versions.Two all regions = regions ≡ all
