use Rattle.initializer_analysis.specs.steps.Raised.{HaveFlagged}
use Rattle.initializer_analysis.proofs.flagged_heights.flag_components.Given as goal

abbrev pub invariant-loop-vertex : goal.invariant-loop-vertex
invariant-loop-vertex l = HaveFlagged l.components.numbers l.flagged l.vertex l.table
