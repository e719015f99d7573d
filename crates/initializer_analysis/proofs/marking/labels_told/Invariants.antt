use Rattle.std.proofs.Common.{take}
use Rattle.use_graph.specs.steps.Deeds.{HoldsOfOne}
use Rattle.initializer_analysis.specs.Least.{AreLeast}
use Rattle.initializer_analysis.specs.steps.Marking.{IsLabelOf}
use Rattle.initializer_analysis.proofs.marking.labels_told.Given as goal

abbrev pub invariant-loop-item : goal.invariant-loop-item
invariant-loop-item l = AreLeast (HoldsOfOne (IsLabelOf l.mark) (take l.item-index l.told)) l.least
