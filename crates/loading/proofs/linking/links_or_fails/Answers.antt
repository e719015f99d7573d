use Rattle.loading.proofs.FilesFaultLemmas.{not_both, one_fault}
use Rattle.loading.proofs.linking.links_or_fails.Goals as goal

pub returns-clause-not_both : goal.returns-clause-not_both
returns-clause-not_both c = not_both

pub returns-clause-one_fault : goal.returns-clause-one_fault
returns-clause-one_fault c = one_fault
