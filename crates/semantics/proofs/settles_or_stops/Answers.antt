use Rattle.semantics.proofs.RefusalsLemmas.{settles_or_stops_lem}
use Rattle.semantics.proofs.settles_or_stops.Goals as goal

pub returns : goal.returns
returns c = settles_or_stops_lem
