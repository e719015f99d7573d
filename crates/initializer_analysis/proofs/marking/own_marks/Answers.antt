use Rattle.std.proofs.Common.{arith}
use Rattle.std.proofs.lemmas.Option.{slice_get_within}
use Rattle.initializer_analysis.specs.steps.Marking.{IsMarkedBy}
use Rattle.initializer_analysis.proofs.LabelsLemmas.{table_more, table_all, length_pushed}
use Rattle.initializer_analysis.proofs.marking.own_marks.Goals as goal

pub loop-vertex-preserved : goal.loop-vertex-preserved
loop-vertex-preserved c = record {
  len = length_pushed c.loop-vertex.own.items c.push.new.self.items c.labels_at.result c.loop-vertex.vertex
      c.loop-vertex.invariant.len c.in_ok-push.ensures.items;
  below = table_more (IsMarkedBy c.args.uses.now.bodies.items c.args.mark) c.loop-vertex.vertex
      c.loop-vertex.own.items c.push.new.self.items c.labels_at.result c.loop-vertex.invariant.len
      c.in_ok-push.ensures.items c.loop-vertex.invariant.below c.labels_at.ensures;
}

pub returns-clause-own : goal.returns-clause-own
returns-clause-own c =
    let bodies = c.args.uses.now.bodies.items in
    table_all (IsMarkedBy bodies c.args.mark) c.loop-vertex.vertex c.loop-vertex.own.items
    (omega (arith, c.loop-vertex.invariant.len))
    (λ v l more (b, at, has). absurd (let low = slice_get_within bodies v b at in omega arith))
    c.loop-vertex.invariant.below
