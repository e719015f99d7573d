use Rattle.cli.proofs.OneRefusalLemmas.{linked_are_not_refused_lem as proof}
use Rattle.cli.proofs.laws.linked_are_not_refused.Goals as goal

pub returns : goal.returns
returns c = proof
