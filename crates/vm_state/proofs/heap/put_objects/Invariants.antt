use Rattle.std.proofs.Common.{◌≡◌, length, take}
use Rattle.vm_state.proofs.heap.put_objects.Given as goal

abbrev pub invariant-loop-held : goal.invariant-loop-held
invariant-loop-held l = record {
  pool : l.pool ≡ record { count = l.fn.pool.count; objects = l.yielded };
  prefix : l.yielded ≡ take (length l.yielded) l.fn.objects.items;
}
