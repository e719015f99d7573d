use Rattle.std.proofs.Common.{◌≡◌, sym, refl, subst, arith, rules}
use Rattle.vm_state.specs.Objects.{none_held}
use Rattle.vm_state.specs.Pools.{IsListOf, pool_at, pool_by}
use Rattle.vm_state.proofs.heap.Heap.row.Goals as goal

pub returns-in-Some : goal.returns-in-Some
returns-in-Some c =
    let is : pool_at c.args.self.now c.args.maker ≡ pool_by c.in-Some.pool.now = search rules in
    subst (IsListOf c.of.result) (sym is) (subst (λ x. IsListOf x (pool_by c.in-Some.pool.now)) (sym c.of.ensures)
    c.len-count.ensures.pool)

pub returns-in-None : goal.returns-in-None
returns-in-None c =
    let is : pool_at c.args.self.now c.args.maker ≡ pool_by none_held = search rules in
    subst (IsListOf c.none.result) (sym is) (subst (λ x. IsListOf x (pool_by none_held)) (sym c.none.ensures)
    (record { ascending = omega arith; all = refl }))
