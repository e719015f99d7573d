use Rattle.std.proofs.Common.{◌≡◌, ℕ, ◌+◌, List, Some, take, get_or, set, slice_get, arith, sym, subst, ◌∙◌}
use Rattle.std.specs.List.{Contains}
use Rattle.std.proofs.lemmas.List.{take_all, length-set}
use Rattle.hierarchy.proofs.DepthFirstLemmas.{places_next}
use Rattle.hierarchy.proofs.ancestors.note_places.Goals as goal

pub loop-place-preserved : goal.loop-place-preserved
loop-place-preserved c =
    let items : List ℕ = c.args.classes.now.items in
    let places : List ℕ = c.loop-place.places.items in
    let k : ℕ = c.loop-place.place in
    record {
      len = length-set places c.at.result k ∙ c.loop-place.invariant.len;
      there = subst (λ (a : ℕ). (d : ℕ) → Contains (take (k + 1) items) d
          → slice_get items (get_or (set places a k) d 0) ≡ Some d) (sym c.at.ensures.value)
          (places_next items places k
          (omega (arith, c.loop-place-test.true, c.len-place-end.ensures.value))
          (omega (arith, c.at.ensures.below, c.at.ensures.value, c.requires.limit, c.loop-place.invariant.len))
          c.loop-place.invariant.there);
    }

pub returns-clause-places : goal.returns-clause-places
returns-clause-places c = λ d has.
    c.loop-place.invariant.there d
    (subst (λ (l : List ℕ). Contains l d)
    (sym (take_all c.loop-place.place c.args.classes.now.items
    (omega (arith, c.loop-place-test.false, c.len-place-end.ensures.value)))) has)
