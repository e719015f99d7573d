use Rattle.options.specs.steps.Flags.{AreBelow}
use Rattle.options.proofs.chains.flag_below.Given as goal

abbrev pub invariant-loop-class : goal.invariant-loop-class
invariant-loop-class l = AreBelow l.family l.class-items l.initial.flags l.flags l.class-index
