use Rattle.std.proofs.Common.{◌≡◌, length}
use Rattle.vm_state.specs.steps.Objects.{numbers_of, objects_of}
use Rattle.vm_state.proofs.heap.add_objects.Given as goal

abbrev pub invariant-loop-held : goal.invariant-loop-held
invariant-loop-held l = record {
  index : l.place ≡ length l.yielded;
  objects : l.objects.items ≡ objects_of l.owners (numbers_of l.plain l.later) l.yielded;
}
