use Rattle.std.proofs.Common.{◌∙◌, map, slice_set, ap}
use Rattle.std.proofs.lemmas.List.{map-set}
use Rattle.vm_state.proofs.elements.put_narrow.Goals as goal

pub returns-in-Some-clause-yes : goal.returns-in-Some-clause-yes
returns-in-Some-clause-yes g c put =
    let old = c.args.elements.now.items in
    ap (map g.E.Packed.value_of) c.put_element.ensures
    ∙ map-set g.E.Packed.value_of old c.args.slot c.in-Some.element
    ∙ ap (slice_set (map g.E.Packed.value_of old) c.args.slot) c.in-Some.ensures
