-- Regions that are read of all classes, as the machine holds them.
use Rattle.std.specs.Prelude.{◌≡◌, ℕ, ◌<◌, List, Option, length}
use Rattle.semantics.specs.Quiet.{Environment}
use Rattle.program.specs.Tables.{Tables}
use Rattle.region_shape.specs.declared.regions.Region.{Region}
use Rattle.region_shape.specs.Regions.{environment_of}
use Rattle.image_format.specs.Regions.{ImageRegion}
use Rattle.image_format.specs.declared.version.Version.{Version}
use Rattle.image_format.specs.declared.version.Version.TheVariants as versions
use Rattle.object_graph.specs.Idle.{AreReachedOf, IsFirstIdle}
use Rattle.image_parser.specs.declared.fault.RegionsFault.{RegionsFault}
use Rattle.image_parser.specs.declared.fault.RegionsFault.TheVariants as faults
use Rattle.image_parser.specs.AllRegions.{RegionsText}
use Rattle.image_parser.specs.FlagFaults.{AreFlags}
use Rattle.image_parser.specs.Regions.{Begins}
use Rattle.image_parser.specs.reading.Held.{AddsStrings, HoldsRegions}

-- These regions hold what is told. The program got strings, but none where those that it had hold it.
pub record HoldsTold (P Q : Tables) (told : List (Option ImageRegion)) (env : Environment) : Type 0 where
  pub holds : HoldsRegions Q.strings told env
  pub adds : AddsStrings P Q
  pub same : (other : Environment) → HoldsRegions P.strings told other → Q ≡ P

-- some static field reaches each object of a class below the count of classes; nothing is wanted in version 1
abbrev pub NeedsReached : Version → Tables → List (Option Region) → Type 0
NeedsReached versions.One P regions = Unit {0}
NeedsReached versions.Two P regions = (c : ℕ) → c < length P.classes → AreReachedOf P (environment_of regions) c

-- In version 2 this is the least class of which an object is not reached.
pub data IsIdleFault (version : Version) (P : Tables) (regions : List (Option Region)) : RegionsFault → Type 0 where
  idle : {c : ℕ} → version ≡ versions.Two → IsFirstIdle P (environment_of regions) c
      → IsIdleFault version P regions (faults.Idle c)

-- the bytes begin with flags and regions, which these hold
pub record AreHeld (version : Version) (P Q : Tables) (bytes : List ℕ) (regions : List (Option Region)) (rest : List ℕ)
    : Type 0 where
  pub told : List (Option ImageRegion)
  pub begins : Begins (AreFlags version P.family) bytes told rest
  pub holds : HoldsTold P Q told (environment_of regions)

-- the bytes are the text of regions, which these hold
pub record RegionsHeld (version : Version) (P Q : Tables) (bytes : List ℕ) (regions : List
    (Option Region)) : Type 0 where
  pub told : List (Option ImageRegion)
  pub text : RegionsText version P.family bytes told
  pub holds : HoldsTold P Q told (environment_of regions)
