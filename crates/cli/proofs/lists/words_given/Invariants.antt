use Rattle.std.proofs.Common.{◌≡◌, take}
use Rattle.command_line.specs.Requests.{texts}
use Rattle.cli.specs.steps.Lists.{AreGivenAs}
use Rattle.cli.proofs.lists.words_given.Given as goal

abbrev pub invariant-loop-word : goal.invariant-loop-word
invariant-loop-word g l = record {
  given : AreGivenAs (g.F.Files.holds l.fn.files) (texts (take l.word-index l.words)) l.given.items;
  same : g.F.Files.holds l.files ≡ g.F.Files.holds l.fn.files;
}
