-- Readers of flags.
use Rattle.std.specs.Prelude.{ℕ, zero, suc, List, [], length, Option, Some, None, Result, Ok, Err}
use Rattle.std.specs.Int.{w8}
use Rattle.classfile.specs.reading.Numbers.{◌>>=◌}
use Rattle.loading.specs.Families.{Family}
use Rattle.image_format.specs.Regions.{ImageRegion}
use Rattle.image_format.specs.declared.version.Version.{Version}
use Rattle.image_parser.specs.declared.fault.RegionFault.{RegionFault}
use Rattle.image_parser.specs.declared.fault.RegionFault.TheVariants as faults
use Rattle.image_parser.specs.declared.fault.FlagsFault.{FlagsFault}
use Rattle.image_parser.specs.Inside.{inside}
use Rattle.image_parser.specs.FlagFaults.{numbers}
use Rattle.image_parser.specs.reading.Results.{number_at, each_at}
use Rattle.image_parser.specs.reading.Objects.{region_at}

abbrev pub Flag : Type 0
Flag = Option ImageRegion

abbrev pub flagged : ImageRegion → Flag
flagged region = Some region

abbrev pub flagged_at : Version → Family → ℕ → ℕ → List ℕ → Result (Flag × List ℕ) RegionFault
flagged_at version family c zero bytes = Ok (None, bytes)
flagged_at version family c (suc zero) bytes = region_at version family c bytes >>= λ region. Ok
    (flagged region.0, region.1)
flagged_at version family c (suc (suc n)) bytes = Err faults.Shape

unfoldable pub flag_at : Version → Family → ℕ → List ℕ → Result (Flag × List ℕ) RegionFault
flag_at version family c bytes = number_at w8 bytes >>= λ flag. flagged_at version family c flag.0 flag.1

abbrev pub inside_at : {X : Type 0} → ℕ → Result X RegionFault → Result X FlagsFault
inside_at c (Ok x) = Ok x
inside_at c (Err e) = Err (inside c e)

abbrev pub flag_in : Version → Family → ℕ → List ℕ → Result (Flag × List ℕ) FlagsFault
flag_in version family c bytes = inside_at c (flag_at version family c bytes)

unfoldable pub flags_at : Version → Family → List ℕ → Result (List Flag × List ℕ) FlagsFault
flags_at version family = each_at (flag_in version family) (numbers 0 (length family)) []
