use Rattle.use_graph.proofs.CollectedLemmas.{Collected}
use Rattle.audit.specs.steps.Reaching.{IsToldPlace}
use Rattle.audit.proofs.places.add_told.Given as goal

abbrev pub invariant-loop-item : goal.invariant-loop-item
invariant-loop-item l = Collected (IsToldPlace l.method) l.told l.item-index l.initial.places.items l.places.items
