use Rattle.std.proofs.Common.{◌+◌, List, Bool}
use Rattle.initializer_analysis.specs.steps.Reasons.{AreFirstBelow}
use Rattle.initializer_analysis.proofs.reasons.add_marks.Given as goal

abbrev pub invariant-loop-mark : goal.invariant-loop-mark
invariant-loop-mark l =
    (forced : List Bool) → AreFirstBelow l.program forced 2 l.initial.reasons
    → AreFirstBelow l.program forced (l.mark-index + 2) l.reasons
