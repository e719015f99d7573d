use Rattle.cli.proofs.ExistenceLemmas.{build_or_fault as proof}
use Rattle.cli.proofs.existence.build_or_fault.Goals as goal

pub returns : goal.returns
returns c = proof
