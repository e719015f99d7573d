use Rattle.std.proofs.Common.{◌∙◌, map, replicate, ap}
use Rattle.vm_state.proofs.ElementLemmas.{map-replicate}
use Rattle.vm_state.proofs.elements.filled_narrow.Goals as goal

pub returns-in_ok-many-in-Some : goal.returns-in_ok-many-in-Some
returns-in_ok-many-in-Some g c =
    ap (map g.E.Packed.value_of) c.in_ok-many-in-Some.ensures
    ∙ map-replicate g.E.Packed.value_of c.args.count c.in-Some.element
    ∙ ap (replicate c.args.count) c.in-Some.ensures
