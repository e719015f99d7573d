use Rattle.std.proofs.Common.{ap, ◌∙◌}
use Rattle.vm_state.specs.Pools.{pool_by}
use Rattle.vm_state.proofs.PoolLemmas.{pool_by-next}
use Rattle.vm_state.proofs.heap.Pool.make.Goals as goal

pub returns-clause-ok : goal.returns-clause-ok
returns-clause-ok c = ap pool_by c.in_ok-number.ensures.ok ∙ pool_by-next c.args.self.now c.args.class c.args.slots
