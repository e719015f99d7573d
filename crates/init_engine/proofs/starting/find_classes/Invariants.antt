use Rattle.std.proofs.Common.{take}
use Rattle.init_engine.specs.Starts.{AreEntries}
use Rattle.init_engine.proofs.starting.find_classes.Given as goal

abbrev pub invariant-loop-place : goal.invariant-loop-place
invariant-loop-place l = AreEntries l.program (take l.place l.entries) l.classes.items
