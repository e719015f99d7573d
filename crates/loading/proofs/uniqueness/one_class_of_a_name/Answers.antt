use Rattle.loading.proofs.UniquenessLemmas.{one_class}
use Rattle.loading.proofs.uniqueness.one_class_of_a_name.Goals as goal

pub returns : goal.returns
returns c = one_class
