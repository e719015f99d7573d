use Rattle.journal.proofs.UniqueLemmas.{one_list}
use Rattle.journal.proofs.laws.journals_are_one.Goals as goal

pub returns : goal.returns
returns c = one_list
