use Rattle.std.proofs.Common.{◌≡◌, ◌++◌, take}
use Rattle.std.specs.List.{filter}
use Rattle.command_line.specs.Requests.{texts}
use Rattle.cli.specs.Lists.{is_filled}
use Rattle.cli.proofs.lists.add_lines.Given as goal

abbrev pub invariant-loop-line : goal.invariant-loop-line
invariant-loop-line l =
    texts l.names.items ≡ texts l.fn.names.items ++ filter is_filled (texts (take l.line-index l.lines))
