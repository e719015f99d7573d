use Rattle.std.proofs.Common.{take}
use Rattle.use_graph.specs.steps.Deeds.{HoldsOfOne}
use Rattle.initializer_analysis.specs.Least.{AreLeast}
use Rattle.initializer_analysis.specs.steps.RefusedUses.{IsRefusedOf}
use Rattle.initializer_analysis.proofs.refused_uses.refused_among.Given as goal

abbrev pub invariant-loop-class : goal.invariant-loop-class
invariant-loop-class l = AreLeast (HoldsOfOne (IsRefusedOf l.refused l.limit) (take l.class-index l.classes)) l.least
