use Rattle.cli.proofs.OneBuildRefusalLemmas.{one_build_refusal_lem as proof}
use Rattle.cli.proofs.laws.one_build_refusal.Goals as goal

pub returns : goal.returns
returns c = proof
