use Rattle.std.proofs.Common.{◌≡◌}
use Rattle.object_graph.specs.Names.{AreDistinct}
use Rattle.object_graph.specs.steps.Listed.{names_below}
use Rattle.object_graph.proofs.listing.add_all_names.Given as goal

abbrev pub invariant-loop-class : goal.invariant-loop-class
invariant-loop-class l = record {
  listed : l.names.items ≡ names_below l.regions l.class;
  distinct : AreDistinct (names_below l.regions l.class);
}
