use Rattle.audit.proofs.EndsLemmas.{ends_are_told_lem}
use Rattle.audit.proofs.laws.ends_are_told.Goals as goal

pub returns : goal.returns
returns c = ends_are_told_lem
