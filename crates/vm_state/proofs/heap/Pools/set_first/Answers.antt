use Rattle.std.proofs.Common.{◌≡◌, ◌<◌, ◌≤◌, ◌∙◌, List, length, ap, subst, rules}
use Rattle.vm_state.specs.Objects.{HeldObjects}
use Rattle.vm_state.specs.SharedState.{Pool, with_slot}
use Rattle.vm_state.specs.Pools.{pool_in, with_pool}
use Rattle.vm_state.proofs.PoolLemmas.{pool_in-changed, pool_in-past}
use Rattle.vm_state.proofs.SlotLemmas.{nothing_first}
use Rattle.vm_state.proofs.ShareLemmas.{if_done}
use Rattle.vm_state.proofs.heap.Pools.set_first.Goals as goal

pub returns-then-maker-len-clause-ok : goal.returns-then-maker-len-clause-ok
returns-then-maker-len-clause-ok c =
    let change : Pool → Pool = λ p. with_slot (with_slot p c.args.number 0 c.args.first) c.args.number 1
    c.args.second in
    let past : length c.self.inside.pools.items ≤ c.args.maker = search rules in
    subst (λ (pools : List HeldObjects). pool_in pools ≡ with_pool (pool_in pools) c.args.maker
    (change (pool_in pools c.args.maker))) c.self.view_is
    (pool_in-past c.self.inside.pools.items c.args.maker change past
    (nothing_first c.args.number c.args.first c.args.second))

pub returns-clause-ok : goal.returns-clause-ok
returns-clause-ok c =
    let change : Pool → Pool = λ p. with_slot (with_slot p c.args.number 0 c.args.first) c.args.number 1
    c.args.second in
    let room : c.args.maker < length c.self.inside.pools.items = search rules in
    if_done c.set_first.result c.set_first.ensures.ok (λ is.
    pool_in-changed c.self.inside.pools.items c.args.maker c.index_mut-pool.result.now c.set_first.new.self change room
    c.index_mut-pool.ensures.value is
    ∙ ap (λ (pools : List HeldObjects). with_pool (pool_in pools) c.args.maker (change (pool_in pools c.args.maker)))
    c.self.view_is)
