use Rattle.std.proofs.Common.{arith, ◌∙◌, get_or, subst, sym}
use Rattle.std.specs.List.{Contains}
use Rattle.std.proofs.lemmas.List.{take_all, length-set}
use Rattle.hierarchy.proofs.DepthFirstLemmas.{places_next}
use Rattle.hierarchy.proofs.depth_first.places_in.Goals as goal

pub loop-place-preserved : goal.loop-place-preserved
loop-place-preserved c = record {
  len = length-set c.loop-place.places.items (get_or c.args.order.now c.loop-place.place 0) c.loop-place.place
      ∙ c.loop-place.invariant.len;
  there = places_next c.args.order.now c.loop-place.places.items c.loop-place.place (omega arith)
      (omega (arith, c.requires c.loop-place.place 0 (omega arith), c.loop-place.invariant.len))
      c.loop-place.invariant.there;
}

pub returns-clause-places : goal.returns-clause-places
returns-clause-places c = λ d has.
    c.loop-place.invariant.there d
    (subst (λ l. Contains l d) (sym (take_all c.loop-place.place c.args.order.now (omega arith))) has)
