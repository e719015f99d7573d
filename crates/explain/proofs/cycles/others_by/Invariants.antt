use Rattle.std.proofs.Common.{None}
use Rattle.initializer_analysis.proofs.OthersLemmas.{HoldsBelow}
use Rattle.explain.specs.steps.Pairs.{IsOther}
use Rattle.explain.proofs.cycles.others_by.Given as goal

abbrev pub invariant-loop-class : goal.invariant-loop-class
invariant-loop-class l = HoldsBelow (IsOther l.uses l.components.numbers l.limit) None l.class l.others.items
