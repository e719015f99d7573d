use Rattle.init_engine.specs.steps.Starts.{AreStarting}
use Rattle.init_engine.proofs.starting.threads_of.Given as goal

abbrev pub invariant-loop-number : goal.invariant-loop-number
invariant-loop-number l = AreStarting l.classes l.number l.threads.items
