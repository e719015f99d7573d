use Rattle.options.proofs.BothLemmas.{NoneBelow}
use Rattle.options.proofs.demanding.first_both.Given as goal

abbrev pub invariant-loop-class : goal.invariant-loop-class
invariant-loop-class l = NoneBelow l.flags l.forced l.class
