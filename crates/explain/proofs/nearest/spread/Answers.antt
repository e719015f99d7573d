use Rattle.std.proofs.Common.{◌∙◌, Some, length, ap, sym, arith}
use Rattle.std.proofs.lemmas.Option.{slice_get-get_or}
use Rattle.explain.proofs.FoundLemmas.{found_none, replicated, spread_done, spread_first, spread_next}
use Rattle.explain.proofs.nearest.spread.Goals as goal

pub add_all-requires-clause-vertices : goal.add_all-requires-clause-vertices
add_all-requires-clause-vertices c =
    rw (replicated c.args.pairs.now (length c.args.back.now) c.requires.pairs) c.requires.vertices

pub add_all-requires-clause-are : goal.add_all-requires-clause-are
add_all-requires-clause-are c =
    found_none c.args.pairs.now c.args.found.now.items (length c.args.back.now) c.requires.pairs c.requires.none
    (replicated c.args.pairs.now (length c.args.back.now) c.requires.pairs)

pub loop-next-init : goal.loop-next-init
loop-next-init c =
    spread_first c.args.back.now c.args.sources.now c.args.pairs.now c.add_all.new.pairs c.args.found.now.items
    c.add_all.new.found.items (replicated c.args.pairs.now (length c.args.back.now) c.requires.pairs) c.requires.pairs
    c.in_ok-add_all.ensures.adds c.in_ok-add_all.ensures.are

pub loop-next-preserved : goal.loop-next-preserved
loop-next-preserved c =
    spread_next c.args.back.now c.args.sources.now c.loop-next.pairs c.add_vertices.new.pairs c.loop-next.found.items
    c.add_vertices.new.found.items c.loop-next.next c.index.result.now
    (slice_get-get_or c.loop-next.found.items c.loop-next.next _ (omega arith) ∙ ap Some (sym c.index.ensures))
    c.loop-next.invariant (rw c.successors.ensures.value at c.in_ok-add_vertices.ensures.adds)
    c.in_ok-add_vertices.ensures.are

pub returns : goal.returns
returns c =
    spread_done c.args.back.now c.args.sources.now c.loop-next.pairs c.loop-next.found.items c.loop-next.next
    (omega arith) c.loop-next.invariant
