use Rattle.std.proofs.Common.{arith}
use Rattle.object_graph.proofs.SearchLemmas.{searching_first, searching_next, searching_done}
use Rattle.object_graph.proofs.reach.search.Goals as goal

pub loop-next-init : goal.loop-next-init
loop-next-init c =
    searching_first c.args.program.now c.args.regions.now c.visit_statics.new.found
    (rw c.requires at c.in_ok-visit_statics.ensures)

pub loop-next-preserved : goal.loop-next-preserved
loop-next-preserved c =
    searching_next c.args.program.now c.args.regions.now c.loop-next.found c.visit_object.new.found
    c.loop-next.next c.at-place.result c.visit_object.ensures.ascending c.at-place.ensures c.loop-next.invariant
    c.in_ok-visit_object.ensures.added

pub returns : goal.returns
returns c =
    searching_done c.args.program.now c.args.regions.now c.loop-next.found c.loop-next.next (omega arith)
    c.loop-next.invariant
