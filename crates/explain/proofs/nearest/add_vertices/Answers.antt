use Rattle.std.proofs.Common.{◌∙◌, arith}
use Rattle.std.proofs.lemmas.Option.{slice_get-get_or}
use Rattle.explain.specs.steps.Found.{IsIn}
use Rattle.explain.proofs.FoundLemmas.{IsInBefore, adds_as, adds_vertex, in_row}
use Rattle.explain.proofs.nearest.add_vertices.Goals as goal

pub loop-vertex-preserved : goal.loop-vertex-preserved
loop-vertex-preserved c = record {
  len = c.add.ensures.len ∙ c.loop-vertex.invariant.len;
  are = c.in_ok-add.ensures.are;
  adds = adds_vertex c.args.vertices.now c.loop-vertex.vertex-index _ c.args.bearer c.args.pairs.now c.loop-vertex.pairs
      c.add.new.pairs c.args.found.now.items c.loop-vertex.found.items c.add.new.found.items
      (slice_get-get_or c.args.vertices.now c.loop-vertex.vertex-index 0 (omega arith)) c.loop-vertex.invariant.adds
      c.in_ok-add.ensures.adds;
}

pub returns-clause-adds : goal.returns-clause-adds
returns-clause-adds c =
    adds_as (IsInBefore c.args.vertices.now c.loop-vertex.vertex-index c.args.bearer)
    (IsIn c.args.vertices.now c.args.bearer)
    c.args.pairs.now c.loop-vertex.pairs c.args.found.now.items c.loop-vertex.found.items
    c.loop-vertex.invariant.adds
    (λ s. in_row c.args.vertices.now c.loop-vertex.vertex-index c.args.bearer s (omega arith))
