use Rattle.program.proofs.OneFamilyLemmas.{one_family}
use Rattle.program.proofs.laws.one_family.Goals as goal

pub returns : goal.returns
returns c = one_family
