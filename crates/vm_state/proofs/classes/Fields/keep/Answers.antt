use Rattle.std.proofs.Common.{◌≤◌, length, ap, ◌∙◌, arith}
use Rattle.vm_state.specs.Statics.{field_in}
use Rattle.vm_state.proofs.StaticLemmas.{field_in-filled}
use Rattle.vm_state.proofs.classes.Fields.keep.Goals as goal

pub returns-in_ok-resize-clause-same : goal.returns-in_ok-resize-clause-same
returns-in_ok-resize-clause-same c =
    let values = c.self.inside.values in
    let count = values.ok.0 in
    let short : length values.items ≤ c.args.count = omega arith in
    ap field_in (rw count at c.in_ok-resize.ensures.items)
    ∙ (field_in-filled values.items c.args.count short ∙ ap field_in c.self.view_is)
