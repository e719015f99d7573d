use Rattle.std.proofs.Common.{◌≡◌, ℕ, ◌≤◌, []}
use Rattle.semantics.specs.Images.{with_image}
use Rattle.vm_state.specs.Shares.{shared_of}
use Rattle.region_shape.specs.Regions.{region_in}
use Rattle.object_graph.specs.Images.{start_image}
use Rattle.image_reader.specs.steps.Placing.{first_classes}
use Rattle.image_reader.proofs.start.put_regions.Given as goal

abbrev pub invariant-loop-class : goal.invariant-loop-class
invariant-loop-class l = record {
  placed : shared_of l.shared []
      ≡ with_image (first_classes (start_image (record { program = l.program; regions = l.fn.regions })) l.class)
      (shared_of l.fn.shared []);
  left : (d : ℕ) → l.class ≤ d → region_in l.left d ≡ region_in l.fn.regions d;
}
