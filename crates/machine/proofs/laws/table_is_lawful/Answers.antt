use Rattle.machine.proofs.LawsLemmas.{table_is_lawful_lem}
use Rattle.machine.proofs.laws.table_is_lawful.Goals as goal

pub returns : goal.returns
returns c = table_is_lawful_lem
