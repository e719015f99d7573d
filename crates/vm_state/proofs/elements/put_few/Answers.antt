use Rattle.std.proofs.Common.{◌∙◌, map, slice_set, ap}
use Rattle.std.proofs.lemmas.List.{map-set}
use Rattle.vm_state.specs.steps.Elements.{brief_value}
use Rattle.vm_state.proofs.elements.put_few.Goals as goal

pub returns-in-Some-clause-yes : goal.returns-in-Some-clause-yes
returns-in-Some-clause-yes c put =
    let old = c.args.few.now in
    ap (map brief_value) c.put.ensures
    ∙ map-set brief_value old c.args.slot c.in-Some.brief
    ∙ ap (slice_set (map brief_value old) c.args.slot) c.in-Some.ensures
