-- How bytes fail to begin with the flags and regions of the classes of a program.
use Rattle.std.specs.Prelude.{◌≡◌, ℕ, zero, suc, ◌+◌, List, [], ◌∷◌, length, Option, Some, None, Result, Err}
use Rattle.std.specs.List.{AllZip, flat_map}
use Rattle.std.specs.Int.{w8}
use Rattle.classfile.specs.Faults.{Either, Number}
use Rattle.loading.specs.Families.{Family}
use Rattle.image_format.specs.Regions.{ImageRegion}
use Rattle.image_format.specs.declared.version.Version.{Version}
use Rattle.image_format.specs.Shapes.{HasShape}
use Rattle.image_format.specs.Texts.{flag_text}
use Rattle.image_parser.specs.declared.fault.RegionFault.{RegionFault}
use Rattle.image_parser.specs.declared.fault.RegionFault.TheVariants as faults
use Rattle.image_parser.specs.declared.fault.FlagsFault.{FlagsFault}
use Rattle.image_parser.specs.declared.fault.FlagsFault.TheVariants as flags
use Rattle.image_parser.specs.FirstFailing.{EachFails}
use Rattle.image_parser.specs.RegionFaults.{CutNumber, RegionFails}
use Rattle.image_parser.specs.Inside.{inside}

-- so many numbers from one on
abbrev pub numbers : ℕ → ℕ → List ℕ
numbers c zero = []
numbers c (suc n) = c ∷ numbers (c + 1) n

-- a class that is not initialized, or one whose region has shape
abbrev pub FlagFits : Version → Family → ℕ → Option ImageRegion → Type 0
FlagFits version family c None = Unit {0}
FlagFits version family c (Some region) = HasShape version family c region

abbrev pub IsFlag : Version → Family → ℕ → Option ImageRegion → List ℕ → Type 0
IsFlag version family c flag text = FlagFits version family c flag × (text ≡ flag_text version family flag)

-- after a flag of 0 nothing, after 1 a region; there is no other flag
abbrev pub FlaggedFails : Version → Family → ℕ → ℕ → List ℕ → RegionFault → Type 0
FlaggedFails version family c zero = λ bytes fault. ⊥
FlaggedFails version family c (suc zero) = RegionFails version family c
FlaggedFails version family c (suc (suc n)) = λ bytes fault. fault ≡ faults.Shape

abbrev pub FlagFails : Version → Family → ℕ → List ℕ → RegionFault → Type 0
FlagFails version family c = Either (Number w8) (CutNumber w8) (FlaggedFails version family c)

-- the same among all classes
abbrev pub FlagFailsIn : Version → Family → ℕ → List ℕ → FlagsFault → Type 0
FlagFailsIn version family c bytes fault =
    (e : RegionFault) × (FlagFails version family c bytes e × (fault ≡ inside c e))

-- the first of the classes that fails, in the order of their numbers
abbrev pub FlagsFail : Version → Family → List ℕ → FlagsFault → Type 0
FlagsFail version family =
    EachFails (IsFlag version family) (FlagFailsIn version family) (numbers 0 (length family))

-- a flag for each class
abbrev pub AreFlags : Version → Family → List (Option ImageRegion) → List ℕ → Type 0
AreFlags version family regions text = AllZip (FlagFits version family) (numbers 0 (length family)) regions
    × (text ≡ flat_map (flag_text version family) regions)

-- memory ran out, or this is the fault
abbrev pub IsFlagsFault : (FlagsFault → Type 0) → FlagsFault → Type 0
IsFlagsFault Fails flags.Memory = Unit {0}
IsFlagsFault Fails fault = Fails fault

-- reading fails so, unless memory ran out
abbrev pub FailsIn : {Y : Type 0} → FlagsFault → Result Y FlagsFault → Type 0
FailsIn flags.Memory read = Unit {0}
FailsIn e read = read ≡ Err e
