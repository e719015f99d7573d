use Rattle.std.proofs.Common.{length, sym, ap, ◌∙◌, subst, get_or, arith}
use Rattle.std.proofs.lemmas.List.Elements.{Contains-get_or}
use Rattle.hierarchy.specs.steps.DepthFirst.{IsWholeOrder}
use Rattle.hierarchy.proofs.nearest.NearestMembers.of_family.Goals as goal

pub places_in-requires : goal.places_in-requires
places_in-requires c = λ k d small.
    let order = c.as_slice-order.result.now in
    let whole : IsWholeOrder c.args.family.now order =
    subst (IsWholeOrder c.args.family.now) (sym c.as_slice-order.ensures.value) c.in_ok-order.ensures in
    omega (
      arith,
      whole.within (get_or order k d) (Contains-get_or order k d small),
      ap length c.classes.ensures.value,
    )

pub returns : goal.returns
returns c = record {
  order = c.as_slice-order.result.now;
  whole = subst (IsWholeOrder c.args.family.now) (sym c.as_slice-order.ensures.value) c.in_ok-order.ensures;
  places = c.in_ok-places.ensures.places;
  count = c.in_ok-places.ensures.len ∙ ap length c.classes.ensures.value;
  tops = c.in_ok-tops.ensures;
  told = c.in_ok-reaches.ensures;
}
