use Rattle.std.proofs.Common.{◌≡◌, take}
use Rattle.command_line.specs.Requests.{texts}
use Rattle.cli.specs.Files.{AreTextsOf}
use Rattle.cli.specs.ImageBuilds.{AreAtMost}
use Rattle.cli.specs.Runs.{texts_of}
use Rattle.cli.proofs.files.contents.Given as goal

abbrev pub invariant-loop-name : goal.invariant-loop-name
invariant-loop-name g l = record {
  most : AreAtMost l.most (texts_of l.contents.items);
  texts : AreTextsOf (g.F.Files.holds l.fn.files) (texts (take l.name-index l.names)) (texts_of l.contents.items);
  same : g.F.Files.holds l.files ≡ g.F.Files.holds l.fn.files;
}
