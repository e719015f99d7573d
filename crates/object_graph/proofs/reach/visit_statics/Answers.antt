use Rattle.std.proofs.Common.{◌≤◌, arith, length}
use Rattle.object_graph.proofs.PlaceLemmas.{statics_none, statics_more, statics_all}
use Rattle.object_graph.proofs.reach.visit_statics.Goals as goal

pub loop-class-init : goal.loop-class-init
loop-class-init c = statics_none c.args.program.now c.args.regions.now c.args.found.now

pub loop-class-preserved : goal.loop-class-preserved
loop-class-preserved c =
    statics_more c.args.program.now c.args.regions.now c.loop-class.class c.args.found.now c.loop-class.found
    c.visit_statics_of.new.found c.loop-class.invariant c.in_ok-visit_statics_of.ensures

pub returns : goal.returns
returns c =
    let all : length c.args.program.now.classes ≤ c.loop-class.class =
    omega (arith, c.given_count-class-end.ensures.value) in
    statics_all c.args.program.now c.args.regions.now c.loop-class.class c.args.found.now c.loop-class.found all
    c.loop-class.invariant
