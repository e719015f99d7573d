use Rattle.std.proofs.Common.{◌≡◌, []}
use Rattle.semantics.specs.Images.{with_image}
use Rattle.vm_state.specs.Shares.{shared_of}
use Rattle.object_graph.specs.Images.{start_image}
use Rattle.image_reader.specs.steps.Placing.{first_classes}
use Rattle.image_reader.proofs.start.place_copies.Given as goal

abbrev pub invariant-loop-class : goal.invariant-loop-class
invariant-loop-class l =
    shared_of l.shared [] ≡ with_image (first_classes (start_image l.image) l.class) (shared_of l.fn.shared [])
