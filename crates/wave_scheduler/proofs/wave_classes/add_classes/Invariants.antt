use Rattle.std.proofs.Common.{length}
use Rattle.graph.specs.Rows.{rows_of}
use Rattle.wave_scheduler.specs.steps.WaveMembers.{AreMembersOfAllBelow}
use Rattle.wave_scheduler.proofs.wave_classes.add_classes.Given as goal

abbrev pub invariant-loop-class : goal.invariant-loop-class
invariant-loop-class l = AreMembersOfAllBelow l.verdicts l.class (length l.initial.waves.items) (rows_of l.waves.items)
