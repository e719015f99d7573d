use Rattle.std.proofs.Common.{◌≤◌, ◌<◌, length, arith}
use Rattle.initializer_analysis.specs.steps.Dependence.{vertex_of}
use Rattle.initializer_analysis.proofs.RowsBelowLemmas.{below_class, below_same, below_all}
use Rattle.initializer_analysis.proofs.dependence.add_all_uses.Goals as goal

pub loop-class-init : goal.loop-class-init
loop-class-init c =
    below_same c.args.program.now c.args.uses.now (length c.args.uses.now.calls) (vertex_of c.args.uses.now 0)
    c.args.graph.now (omega arith) c.requires.below

pub loop-class-preserved : goal.loop-class-preserved
loop-class-preserved c =
    let low : c.loop-class.class < length c.args.program.now.classes = omega arith in
    below_class c.args.program.now c.args.uses.now c.loop-class.graph c.add_uses.new.graph c.loop-class.class low
    c.loop-class.invariant c.in_ok-add_uses.ensures

pub returns : goal.returns
returns c =
    let whole : length c.args.program.now.classes ≤ c.loop-class.class = omega arith in
    below_all c.args.program.now c.args.uses.now c.loop-class.graph c.loop-class.class whole c.loop-class.invariant
