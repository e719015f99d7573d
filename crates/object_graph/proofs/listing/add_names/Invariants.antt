use Rattle.std.proofs.Common.{◌≡◌, ◌++◌, take}
use Rattle.object_graph.specs.steps.Listed.{names_of}
use Rattle.object_graph.specs.steps.Places.{pool_in}
use Rattle.object_graph.proofs.listing.add_names.Given as goal

abbrev pub invariant-loop-index : goal.invariant-loop-index
invariant-loop-index l =
    l.names.items ≡ l.fn.names.items ++ names_of l.class (take l.index (pool_in l.regions l.class).objects)
