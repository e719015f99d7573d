use Rattle.options.specs.steps.Names.{AreNames}
use Rattle.options.proofs.sorted_names.add_names.Given as goal

abbrev pub invariant-loop-number : goal.invariant-loop-number
invariant-loop-number l = AreNames l.classes l.number l.names.items
