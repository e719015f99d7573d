use Rattle.std.proofs.Common.{◌∙◌, sym, rules}
use Rattle.vm_state.proofs.KeptLemmas.{number_before, number_after}
use Rattle.vm_state.proofs.places.number_at.Goals as goal

pub returns-then-place-plain : goal.returns-then-place-plain
returns-then-place-plain c =
    sym (number_before c.args.plain c.args.place c.args.later.now (search rules))

pub returns-else-place-plain : goal.returns-else-place-plain
returns-else-place-plain c =
    c.later_number.ensures ∙ sym (number_after c.args.plain c.args.place c.args.later.now (search rules))
