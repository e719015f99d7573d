use Rattle.cli.proofs.ExistenceLemmas.{program_or_refusal as proof}
use Rattle.cli.proofs.existence.program_or_refusal.Goals as goal

pub returns : goal.returns
returns c = proof
