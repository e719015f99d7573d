use Rattle.cli.proofs.OneBuildLemmas.{built_or_refused}
use Rattle.cli.proofs.any_order.built_or_refused.Goals as goal

pub returns : goal.returns
returns c = built_or_refused
