use Rattle.std.proofs.Common.{◌≡◌, take}
use Rattle.std.specs.List.{flat_map}
use Rattle.command_line.specs.Requests.{texts}
use Rattle.cli.specs.steps.Lists.{names_of}
use Rattle.cli.proofs.lists.names.Given as goal

abbrev pub invariant-loop-one : goal.invariant-loop-one
invariant-loop-one l = texts l.names.items ≡ flat_map names_of (take l.one-index l.given)
