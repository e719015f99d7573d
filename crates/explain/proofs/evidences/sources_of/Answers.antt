use Rattle.std.proofs.Common.{arith}
use Rattle.explain.proofs.MarkingLemmas.{below_more, below_all}
use Rattle.explain.proofs.evidences.sources_of.Goals as goal

pub loop-vertex-preserved : goal.loop-vertex-preserved
loop-vertex-preserved c =
    below_more c.args.uses.now c.args.mark c.loop-vertex.vertex c.loop-vertex.sources.items
    c.add_vertex.new.sources.items c.loop-vertex.invariant c.in_ok-add_vertex.ensures

pub returns : goal.returns
returns c =
    below_all c.args.uses.now c.args.mark c.loop-vertex.vertex c.loop-vertex.sources.items
    (omega (arith, c.len-vertex-end.ensures)) c.loop-vertex.invariant
