use Rattle.std.proofs.Common.{◌≤◌, ◌∙◌, length, arith}
use Rattle.initializer_analysis.specs.steps.Dependence.{IsVertexOf}
use Rattle.initializer_analysis.proofs.AddsFromLemmas.{added_none, added_more, added_all}
use Rattle.initializer_analysis.proofs.dependence.add_classes.Goals as goal

pub loop-class-preserved : goal.loop-class-preserved
loop-class-preserved c =
    added_more (IsVertexOf c.args.program.now c.args.uses.now) c.args.classes.now c.args.graph.now c.args.from
    c.loop-class.graph c.add_class.new.graph c.loop-class.class-index _ c.loop-class-test.true
    c.loop-class.invariant c.in_ok-add_class.ensures

pub returns : goal.returns
returns c =
    let whole : length c.args.classes.now ≤ c.loop-class.class-index = omega arith in
    added_all (IsVertexOf c.args.program.now c.args.uses.now) c.args.classes.now c.args.graph.now c.args.from
    c.loop-class.graph c.loop-class.class-index whole c.loop-class.invariant

pub loop-class-init : goal.loop-class-init
loop-class-init c =
    added_none (IsVertexOf c.args.program.now c.args.uses.now) c.args.classes.now c.args.graph.now c.args.from

pub add_class-requires-clause-vertices : goal.add_class-requires-clause-vertices
add_class-requires-clause-vertices c = record {
  few = c.requires.vertices.few;
  vertices = c.loop-class.invariant.len ∙ c.requires.vertices.vertices;
}

pub add_class-requires-clause-from : goal.add_class-requires-clause-from
add_class-requires-clause-from c = omega (arith, c.loop-class.invariant.len, c.requires.from)
