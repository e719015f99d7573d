use Rattle.std.proofs.Common.{◌≡◌, ◌-◌, ◌+◌, vec_len}
use Rattle.vm_state.specs.Pools.{pool_in}
use Rattle.vm_state.proofs.heap.Pools.reach.Given as goal

abbrev pub invariant-loop-alloc : goal.invariant-loop-alloc
invariant-loop-alloc l = pool_in l.self-inside.pools.items ≡ pool_in l.fn.self

abbrev pub decreases-loop-alloc : goal.decreases-loop-alloc
decreases-loop-alloc l = l.maker + 1 - vec_len l.self-inside.pools
