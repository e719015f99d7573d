use Rattle.options.specs.steps.Covering.{AreFlaggedTo}
use Rattle.options.proofs.covering.flag_covered.Given as goal

abbrev pub invariant-loop-place : goal.invariant-loop-place
invariant-loop-place l = AreFlaggedTo l.names l.ends l.initial.flags l.flags l.place l.end
