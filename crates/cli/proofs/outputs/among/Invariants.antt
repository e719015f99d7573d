use Rattle.std.proofs.Common.{◌≡◌, take}
use Rattle.command_line.specs.Requests.{texts}
use Rattle.cli.specs.Outputs.{IsNoneOf}
use Rattle.cli.proofs.outputs.among.Given as goal

abbrev pub invariant-loop-input : goal.invariant-loop-input
invariant-loop-input g l = record {
  apart : IsNoneOf l.output (texts (take l.input-index l.inputs));
  same : g.F.Files.holds l.files ≡ g.F.Files.holds l.fn.files;
}
