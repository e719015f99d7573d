use Rattle.std.proofs.Common.{◌<◌, length, ap, ◌∙◌, rules}
use Rattle.vm_state.specs.SharedState.{with_new}
use Rattle.vm_state.specs.Pools.{pool_in, with_pool}
use Rattle.vm_state.proofs.PoolLemmas.{pool_in-made, count-is}
use Rattle.vm_state.proofs.heap.Pools.make.Goals as goal

pub returns-clause-number : goal.returns-clause-number
returns-clause-number c =
    let room : c.args.maker < length c.self.inside.pools.items = search rules in
    c.in_ok-number.ensures.number
    ∙ count-is c.self.inside.pools.items c.args.maker _ room c.index_mut-pool.ensures.value
    ∙ ap (λ pools. (pools c.args.maker).count) (ap pool_in c.self.view_is ∙ c.in_ok-reach.ensures.pools)

pub returns-clause-ok : goal.returns-clause-ok
returns-clause-ok c =
    let room : c.args.maker < length c.self.inside.pools.items = search rules in
    pool_in-made c.self.inside.pools.items c.args.maker _ _ c.args.class c.args.slots room
    c.index_mut-pool.ensures.value c.in_ok-number.ensures.ok
    ∙ ap (λ pools. with_pool pools c.args.maker (with_new (pools c.args.maker) c.args.class c.args.slots))
    (ap pool_in c.self.view_is ∙ c.in_ok-reach.ensures.pools)
