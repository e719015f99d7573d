use Rattle.std.proofs.Common.{◌≤◌, length, arith}
use Rattle.use_graph.proofs.CallGraphLemmas.{done_more, done_all}
use Rattle.use_graph.proofs.call_graph.add_all_numbered.Goals as goal

pub loop-number-preserved : goal.loop-number-preserved
loop-number-preserved c =
    done_more c.args.program.now c.args.numbers.now c.loop-number.invariant c.in_ok-add_numbered.ensures

pub returns : goal.returns
returns c =
    let whole : length c.args.numbers.now ≤ c.loop-number.number =
    omega (arith, c.loop-number-test.false, c.len-number-end.ensures) in
    done_all c.args.program.now c.args.numbers.now c.loop-number.graph c.loop-number.groups c.loop-number.number whole
    c.loop-number.invariant
