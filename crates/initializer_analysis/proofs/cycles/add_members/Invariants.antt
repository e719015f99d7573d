use Rattle.initializer_analysis.specs.steps.Cycles.{HaveMembers}
use Rattle.initializer_analysis.proofs.cycles.add_members.Given as goal

abbrev pub invariant-loop-class : goal.invariant-loop-class
invariant-loop-class l = HaveMembers l.uses l.components.numbers l.class l.table
