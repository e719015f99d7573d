-- What a refusal is of, and what it ends a command with.
use Rattle.std.specs.Prelude.{◌≡◌, ℕ, List, ⊤, string_bytes}
use Rattle.cli.specs.declared.fault.CommandFault.{CommandFault}
use Rattle.cli.specs.declared.fault.CommandFault.TheVariants.{File, Device, Memory}
use Rattle.cli.specs.declared.status.Status.{Status}
use Rattle.cli.specs.declared.status.Status.TheVariants.{Refused, Failed}

-- a file or standard output failed, or the command was refused
abbrev pub refusal_status : CommandFault → Status
refusal_status (File _ _) = Failed
refusal_status Device = Failed
refusal_status _ = Refused

-- the refusal names the file, unless memory for its name was refused
abbrev pub IsOfFile : CommandFault → List ℕ → Type 0
IsOfFile (File text _) name = string_bytes text ≡ name
IsOfFile Memory _ = ⊤
IsOfFile _ _ = ⊥
