use Rattle.std.proofs.Common.{ap, ◌∙◌}
use Rattle.vm_state.specs.Pools.{pool_in}
use Rattle.vm_state.proofs.PoolLemmas.{pool_in-more}
use Rattle.vm_state.proofs.heap.Pools.reach.Goals as goal

pub loop-alloc-preserved : goal.loop-alloc-preserved
loop-alloc-preserved c =
    let more = rw c.new.ensures at c.in_ok-push.ensures.items in
    ap pool_in more ∙ (pool_in-more c.loop-alloc.self-inside.pools.items ∙ c.loop-alloc.invariant)
