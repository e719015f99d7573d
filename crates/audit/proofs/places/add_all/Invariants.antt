use Rattle.audit.specs.steps.Reaching.{AreBelow}
use Rattle.audit.proofs.places.add_all.Given as goal

abbrev pub invariant-loop-number : goal.invariant-loop-number
invariant-loop-number l = AreBelow l.program l.entries l.uses.methods l.number l.places.items
