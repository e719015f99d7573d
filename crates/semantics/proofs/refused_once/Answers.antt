use Rattle.semantics.proofs.RefusalsLemmas.{stop_excludes_lem, one_stop_lem}
use Rattle.semantics.proofs.refused_once.Goals as goal

pub returns : goal.returns
returns c = record { excludes = stop_excludes_lem; one = one_stop_lem }
