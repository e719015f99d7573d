use Rattle.hierarchy.specs.steps.FoundAhead.{AreAhead}
use Rattle.hierarchy.proofs.hierarchy.Hierarchy.add_answers.Given as goal

abbrev pub invariant-loop-answer : goal.invariant-loop-answer
invariant-loop-answer l = AreAhead l.kind l.self l.found
