use Rattle.std.proofs.Common.{◌≤◌, length, subst, List, arith}
use Rattle.use_graph.specs.declared.code.Deed.{Deed}
use Rattle.use_graph.specs.steps.Deeds.{CallsBy}
use Rattle.use_graph.specs.steps.Growing.{LeadsToAll}
use Rattle.use_graph.proofs.CollectedLemmas.{take_all}
use Rattle.use_graph.proofs.CallGraphLemmas.{led_none, led_more, calls_one}
use Rattle.use_graph.proofs.PartsLemmas.{leading}
use Rattle.use_graph.proofs.call_graph.add_calls.Goals as goal

pub loop-deed-init : goal.loop-deed-init
loop-deed-init c =
    led_none c.args.program.now c.args.numbers.now c.args.graph.now c.args.groups.now c.args.from c.args.deeds.now
    c.requires.growing

pub add_call-requires : goal.add_call-requires
add_call-requires c =
    calls_one c.args.program.now c.args.numbers.now c.args.deeds.now c.loop-deed.deed-index _ c.loop-deed-test.true
    c.requires c.loop-deed.invariant.growing

pub loop-deed-preserved : goal.loop-deed-preserved
loop-deed-preserved c =
    led_more c.args.program.now c.args.numbers.now c.args.graph.now c.loop-deed.graph c.add_call.new.graph
    c.loop-deed.groups c.add_call.new.groups c.args.from c.args.deeds.now c.loop-deed.deed-index _
    c.loop-deed-test.true c.loop-deed.invariant c.in_ok-add_call.ensures

pub returns : goal.returns
returns c =
    let whole : length c.args.deeds.now ≤ c.loop-deed.deed-index = omega arith in
    leading c.loop-deed.invariant
    (subst (λ (l : List Deed). LeadsToAll c.args.numbers.now c.loop-deed.graph c.args.from
    (CallsBy c.args.program.now l)) (take_all c.args.deeds.now c.loop-deed.deed-index whole)
    c.loop-deed.invariant.leads)
