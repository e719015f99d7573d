use Rattle.std.proofs.Common.{◌∙◌, arith}
use Rattle.std.specs.List.{Contains}
use Rattle.std.proofs.lemmas.Option.{slice_get-get_or}
use Rattle.explain.specs.steps.Found.{IsBefore}
use Rattle.explain.proofs.FoundLemmas.{adds_as, adds_source, before_all, within_at}
use Rattle.explain.proofs.nearest.add_all.Goals as goal

pub add-requires-clause-vertex : goal.add-requires-clause-vertex
add-requires-clause-vertex c = rw c.loop-source.invariant.len
    (within_at c.args.sources.now _ c.loop-source.source-index _ c.requires.vertices (omega arith))

pub loop-source-preserved : goal.loop-source-preserved
loop-source-preserved c = record {
  len = c.add.ensures.len ∙ c.loop-source.invariant.len;
  are = c.in_ok-add.ensures.are;
  adds = adds_source c.args.sources.now c.loop-source.source-index _ c.args.pairs.now c.loop-source.pairs
      c.add.new.pairs c.args.found.now.items c.loop-source.found.items c.add.new.found.items
      (slice_get-get_or c.args.sources.now c.loop-source.source-index _ (omega arith)) c.loop-source.invariant.adds
      c.in_ok-add.ensures.adds;
}

pub returns-clause-adds : goal.returns-clause-adds
returns-clause-adds c =
    adds_as (IsBefore c.args.sources.now c.loop-source.source-index) (Contains c.args.sources.now) c.args.pairs.now
    c.loop-source.pairs c.args.found.now.items c.loop-source.found.items c.loop-source.invariant.adds
    (λ s. before_all c.args.sources.now c.loop-source.source-index s (omega arith))
