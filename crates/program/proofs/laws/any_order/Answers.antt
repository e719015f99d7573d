use Rattle.program.proofs.OneProgramLemmas.{still_fail, still_family, still_link}
use Rattle.program.proofs.laws.any_order.Goals as goal

pub returns-clause-links : goal.returns-clause-links
returns-clause-links c = still_link

pub returns-clause-fails : goal.returns-clause-fails
returns-clause-fails c = still_fail

pub returns-clause-family : goal.returns-clause-family
returns-clause-family c = still_family
