use Rattle.initializer_analysis.specs.steps.Judging.{AreFlaggedFrom}
use Rattle.initializer_analysis.proofs.waves.flag_classes.Given as goal

abbrev pub invariant-loop-class : goal.invariant-loop-class
invariant-loop-class l = AreFlaggedFrom l._class l.initial.flags.items l.flags.items
