use Rattle.std.proofs.Common.{◌≤◌, length, arith}
use Rattle.std.specs.List.{Contains}
use Rattle.use_graph.specs.steps.Deeds.{HoldsOfOne}
use Rattle.initializer_analysis.proofs.AddsFromLemmas.{IsSame, added_more, added_all, adds_same, row_same}
use Rattle.initializer_analysis.proofs.dependence.add_row.Goals as goal

pub loop-to-preserved : goal.loop-to-preserved
loop-to-preserved c =
    added_more IsSame c.args.row.now c.args.graph.now c.args.from c.loop-to.graph c.add_edge.new.graph
    c.loop-to.to-index _ c.loop-to-test.true c.loop-to.invariant c.in_ok-add_edge.ensures

pub returns : goal.returns
returns c =
    let row = c.args.row.now in
    let whole : length row ≤ c.loop-to.to-index = omega arith in
    adds_same c.args.graph.now c.loop-to.graph c.args.from (HoldsOfOne IsSame row) (Contains row) (row_same row)
    (added_all IsSame row c.args.graph.now c.args.from c.loop-to.graph c.loop-to.to-index whole c.loop-to.invariant)
