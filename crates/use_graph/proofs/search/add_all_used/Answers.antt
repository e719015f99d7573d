use Rattle.use_graph.specs.steps.Deeds.{HoldsOfOne}
use Rattle.use_graph.specs.steps.Searching.{IsClassBelow, IsNeededIn}
use Rattle.use_graph.proofs.SearchingLemmas.{both_added}
use Rattle.use_graph.proofs.search.add_all_used.Goals as goal

pub returns : goal.returns
returns c =
    rw (← c.init_order.ensures.value)
    (both_added (HoldsOfOne (IsClassBelow c.args.limit) c.init_order.result.now)
    (IsNeededIn c.args.graph.now.bodies.items c.args.limit c.args.reached.now.items) c.args.used.now.items
    c.add_used.new.used.items c.add_needed.new.used.items c.requires.none c.in_ok-add_used.ensures.used
    c.in_ok-add_needed.ensures.used)
