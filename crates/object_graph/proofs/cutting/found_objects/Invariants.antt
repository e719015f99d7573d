use Rattle.std.proofs.Common.{◌≡◌, length}
use Rattle.object_graph.specs.steps.Kept.{kept_from}
use Rattle.object_graph.proofs.cutting.found_objects.Given as goal

abbrev pub invariant-loop-held : goal.invariant-loop-held
invariant-loop-held l = record {
  index : l.index ≡ length l.yielded;
  kept : l.kept.items ≡ kept_from l.found l.class 0 l.yielded;
}
