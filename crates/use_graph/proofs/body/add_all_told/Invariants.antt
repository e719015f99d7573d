use Rattle.use_graph.specs.steps.Deeds.{IsToldOf}
use Rattle.use_graph.specs.steps.LeftOut.{AreKnown}
use Rattle.use_graph.proofs.CollectedLemmas.{Collected}
use Rattle.use_graph.proofs.body.add_all_told.Given as goal

abbrev pub invariant-loop-deed : goal.invariant-loop-deed
invariant-loop-deed l = record {
  known : AreKnown l.program l.numbers l.known;
  collected : Collected (IsToldOf l.program) l.deeds l.deed-index l.initial.told.items l.told.items;
}
