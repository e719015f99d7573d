use Rattle.use_graph.specs.steps.Deeds.{NeedsSo}
use Rattle.use_graph.proofs.CollectedLemmas.{Collected}
use Rattle.use_graph.proofs.body.add_needs.Given as goal

abbrev pub invariant-loop-deed : goal.invariant-loop-deed
invariant-loop-deed l = Collected NeedsSo l.deeds l.deed-index l.initial.needs.items l.needs.items
