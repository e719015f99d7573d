use Rattle.object_graph.proofs.PlaceLemmas.{hold_numbers}
use Rattle.object_graph.proofs.reach.visit_slots.Goals as goal

pub returns-then-are_numbers : goal.returns-then-are_numbers
returns-then-are_numbers c =
    hold_numbers c.args.regions.now c.args.slots.now c.args.found.now
    (c.are_numbers.ensures c.if-are_numbers.true)
