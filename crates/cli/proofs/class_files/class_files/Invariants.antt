use Rattle.std.proofs.Common.{take}
use Rattle.cli.specs.Runs.{AreClassFiles, texts_of}
use Rattle.cli.proofs.class_files.class_files.Given as goal

abbrev pub invariant-loop-place : goal.invariant-loop-place
invariant-loop-place l = AreClassFiles (texts_of (take l.place l.files)) l.classes.items
