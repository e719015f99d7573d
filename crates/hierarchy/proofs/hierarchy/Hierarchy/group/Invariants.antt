use Rattle.hierarchy.specs.steps.Groups.{IsGroup}
use Rattle.hierarchy.proofs.hierarchy.Hierarchy.group.Given as goal

abbrev pub invariant-loop-asked : goal.invariant-loop-asked
invariant-loop-asked l = IsGroup l.self l.wanted l.group
