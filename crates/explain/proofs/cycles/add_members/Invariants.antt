use Rattle.explain.specs.steps.Pairs.{HavePairs}
use Rattle.explain.proofs.cycles.add_members.Given as goal

abbrev pub invariant-loop-class : goal.invariant-loop-class
invariant-loop-class l = HavePairs l.uses l.components.numbers l.class l.firsts l.seconds
