use Rattle.std.proofs.Common.{◌≡◌, ◌++◌, take}
use Rattle.use_graph.specs.steps.Deeds.{deeds_for}
use Rattle.use_graph.proofs.deeds.add_deeds.Given as goal

abbrev pub invariant-loop-item : goal.invariant-loop-item
invariant-loop-item l =
    l.deeds.items ≡ l.initial.deeds.items ++ deeds_for l.program l.class l.method (take l.item-index l.items)
