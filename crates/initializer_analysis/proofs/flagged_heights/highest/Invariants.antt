use Rattle.std.proofs.Common.{take}
use Rattle.initializer_analysis.specs.steps.Raised.{IsHighest}
use Rattle.initializer_analysis.proofs.flagged_heights.highest.Given as goal

abbrev pub invariant-loop-vertex : goal.invariant-loop-vertex
invariant-loop-vertex l =
    IsHighest l.components.numbers (take l.vertex-index l.row) l.heights l.flagged l.number l.start l.highest
