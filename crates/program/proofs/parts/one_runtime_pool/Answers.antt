use Rattle.program.proofs.OneRuntimePoolLemmas.{one_runtime_pool}
use Rattle.program.proofs.parts.one_runtime_pool.Goals as goal

pub returns : goal.returns
returns c = one_runtime_pool
