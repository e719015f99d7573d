use Rattle.std.proofs.Common.{◌<◌, length, ap, ◌∙◌, rules}
use Rattle.vm_state.specs.Pools.{pool_by, pool_in, with_pool}
use Rattle.vm_state.proofs.PoolLemmas.{pool_in-set}
use Rattle.vm_state.proofs.heap.Pools.put.Goals as goal

pub returns-clause-ok : goal.returns-clause-ok
returns-clause-ok c =
    let room : c.args.maker < length c.self.inside.pools.items = search rules in
    pool_in-set c.self.inside.pools.items c.args.maker _ room
    ∙ ap (λ pools. with_pool pools c.args.maker (pool_by c.args.pool))
    (ap pool_in c.self.view_is ∙ c.in_ok-reach.ensures.pools)
