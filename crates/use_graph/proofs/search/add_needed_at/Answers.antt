use Rattle.std.proofs.Common.{sym}
use Rattle.use_graph.proofs.SearchingLemmas.{needed_at, none_needed_at}
use Rattle.use_graph.proofs.search.add_needed_at.Goals as goal

pub returns-in_ok-add_used-in-Some-clause-used : goal.returns-in_ok-add_used-in-Some-clause-used
returns-in_ok-add_used-in-Some-clause-used c =
    needed_at c.args.graph.now.bodies.items c.args.limit c.args.vertex c.in-Some.body.now c.deref.result.now
    c.args.used.now.items c.add_used.new.used.items (sym c.in-Some.ensures) c.deref.ensures.value
    c.in_ok-add_used-in-Some.ensures.used

pub returns-in-None-clause-used : goal.returns-in-None-clause-used
returns-in-None-clause-used c =
    none_needed_at c.args.graph.now.bodies.items c.args.limit c.args.vertex c.args.used.now.items
    (sym c.in-None.ensures)
