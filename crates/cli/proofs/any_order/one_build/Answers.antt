use Rattle.cli.proofs.OneBuildLemmas.{one_build, one_build_fault}
use Rattle.cli.proofs.any_order.one_build.Goals as goal

pub returns-clause-built : goal.returns-clause-built
returns-clause-built c = one_build

pub returns-clause-fault : goal.returns-clause-fault
returns-clause-fault c = one_build_fault
