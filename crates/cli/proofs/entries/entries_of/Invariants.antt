use Rattle.std.proofs.Common.{◌≡◌, map, take}
use Rattle.cli.specs.Entries.{entry_name}
use Rattle.command_line.specs.Requests.{texts}
use Rattle.cli.proofs.entries.entries_of.Given as goal

abbrev pub invariant-loop-item : goal.invariant-loop-item
invariant-loop-item l = l.entries.items ≡ map entry_name (texts (take l.item-index l.item-items))
