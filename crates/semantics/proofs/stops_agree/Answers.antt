use Rattle.semantics.proofs.SmallStopsLemmas.{stops_agree_lem}
use Rattle.semantics.proofs.stops_agree.Goals as goal

pub returns : goal.returns
returns c = stops_agree_lem
