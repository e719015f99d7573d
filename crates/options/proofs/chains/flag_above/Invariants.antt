use Rattle.options.specs.steps.Flags.{AreAbove}
use Rattle.options.proofs.chains.flag_above.Given as goal

abbrev pub invariant-loop-place : goal.invariant-loop-place
invariant-loop-place l = AreAbove l.family l.order l.initial.flags l.flags l.place
