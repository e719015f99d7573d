-- What a fault says of the kind of error that it is made of, and what is found of a command.
use Rattle.std.specs.Prelude.{◌≡◌, ◌≢◌, ◌⊎◌, List, Option, Some, MatchOption}
use Rattle.clap.specs.Simple.{subcommand_rows_of}
use Rattle.clap.specs.Walk.{Row, Text}
use Rattle.clap.specs.declared.error.kind.ErrorKind.{ErrorKind}
use Rattle.clap.specs.declared.error.kind.ErrorKind.TheVariants.{DisplayHelp, DisplayVersion}
use Rattle.clap.specs.declared.parser.matches.ArgMatches.{ArgMatches}
use Rattle.command_line.specs.Requests.{Holds}
use Rattle.command_line.specs.declared.fault.WordsFault.{WordsFault}
use Rattle.command_line.specs.declared.fault.WordsFault.TheVariants as faults
use Rattle.command_line.specs.declared.request.Request.{Request}

abbrev pub SaysKind : ErrorKind → WordsFault → Type 0
SaysKind kind faults.Memory = Unit {0}
SaysKind kind (faults.Help text) = (kind ≡ DisplayHelp) ⊎ (kind ≡ DisplayVersion)
SaysKind kind (faults.Wrong text) = (kind ≢ DisplayHelp) × (kind ≢ DisplayVersion)

-- what the arguments of a command request, and none where they request nothing
abbrev pub IsWhatHolds : {T : Type 0} → (T → Type 0) → Option T → Type 0
IsWhatHolds P found = MatchOption found ((asked : _) → P asked → ⊥) P

-- the command that was met, with what was found of its arguments, requests this
abbrev pub AskedByMatches : ArgMatches → Request → Type 0
AskedByMatches matches request = (name : Text) × (found : List Row)
    × (subcommand_rows_of matches ≡ Some (name, found)) × Holds name found request
