use Rattle.initializer_analysis.proofs.AddsFromLemmas.{AddedFor, IsSame}
use Rattle.initializer_analysis.proofs.dependence.add_row.Given as goal

abbrev pub invariant-loop-to : goal.invariant-loop-to
invariant-loop-to l = AddedFor IsSame l.row l.initial.graph l.from l.to-index l.graph
