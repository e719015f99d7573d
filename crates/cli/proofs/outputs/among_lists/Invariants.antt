use Rattle.std.proofs.Common.{◌≡◌, take}
use Rattle.command_line.specs.Requests.{texts}
use Rattle.cli.specs.Outputs.{IsNoListOf}
use Rattle.cli.proofs.outputs.among_lists.Given as goal

abbrev pub invariant-loop-word : goal.invariant-loop-word
invariant-loop-word g l = record {
  apart : IsNoListOf l.output (texts (take l.word-index l.words));
  same : g.F.Files.holds l.files ≡ g.F.Files.holds l.fn.files;
}
