use Rattle.std.proofs.Common.{arith}
use Rattle.initializer_analysis.proofs.MarkingLemmas.{start_small}
use Rattle.initializer_analysis.proofs.RefusedUsesLemmas.{first_by_both, first_by_order}
use Rattle.initializer_analysis.proofs.refused_uses.first_refused_by.Goals as goal

pub returns-in-Some : goal.returns-in-Some
returns-in-Some c =
    first_by_both c.args.program.now c.args.uses.now c.args.refused.now c.args.class c.requires.uses c.args.table.now
    c.in-Some.vertex c.given_count-limit.result c.init_order.result.now c.refused_among-before.result c.join.result
    c.first_but.result c.requires.table c.in-Some.ensures c.given_count-limit.ensures.value
    c.init_order.ensures.value c.refused_among-before.ensures c.join.ensures c.first_but.ensures

pub returns-in-None : goal.returns-in-None
returns-in-None c =
    first_by_order c.args.program.now c.args.uses.now c.args.refused.now c.args.class c.requires.uses
    c.given_count-limit.result c.init_order.result.now c.refused_among-before.result c.first_but-in-None.result
    c.in-None.ensures c.given_count-limit.ensures.value c.init_order.ensures.value c.refused_among-before.ensures
    c.first_but-in-None.ensures

pub bounds-table-vertex : goal.bounds-table-vertex
bounds-table-vertex c =
    (let small = start_small c.args.program.now c.args.uses.now c.args.class c.in-Some.vertex c.requires.uses
    c.in-Some.ensures in
    omega (arith, c.requires.table.len))
