use Rattle.semantics.proofs.WithinStopsLemmas.{stops_within_lem}
use Rattle.semantics.proofs.stops_within.Goals as goal

pub returns : goal.returns
returns c = stops_within_lem
