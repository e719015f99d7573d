use Rattle.explain.proofs.MarkingLemmas.{have_vertices, is_marking}
use Rattle.explain.proofs.evidences.marking.Goals as goal

pub nearest-requires : goal.nearest-requires
nearest-requires c = record {
  vertices = rw c.deref.ensures.value
      (have_vertices c.args.uses.now c.args.mark c.args.back.now c.in_ok-sources.sources.items c.requires.small
      c.requires.back c.in_ok-sources.ensures);
}

pub returns : goal.returns
returns c =
    is_marking c.args.uses.now c.args.mark c.args.back.now c.in_ok-sources.sources.items c.in_ok-pairs.pairs.items
    c.requires.back c.in_ok-sources.ensures (rw c.deref.ensures.value at c.in_ok-pairs.ensures)
