use Rattle.cli.proofs.OneRefusalLemmas.{one_refusal_lem as proof}
use Rattle.cli.proofs.laws.one_refusal.Goals as goal

pub returns : goal.returns
returns c = proof
