use Rattle.std.proofs.Common.{◌≡◌, ap, length, ◌∙◌, arith}
use Rattle.program.specs.InstanceFields.{added_slots}
use Rattle.program.proofs.SlotsLemmas.{added_at, added_few, few_added}
use Rattle.program.proofs.slots.added_count.Goals as goal

pub overflow_cast-result : goal.overflow_cast-result
overflow_cast-result c =
    let family = c.args.family.now in
    let added = c.args.added.now in
    let is : length c.added_at.result.now ≡ length (added_slots family c.args.class) =
    ap length (c.added_at.ensures ∙ added_at family added c.requires c.args.class) in
    omega (arith, is, added_few family (few_added family added c.requires) c.args.class)

pub returns : goal.returns
returns c =
    ap length (c.added_at.ensures ∙ added_at c.args.family.now c.args.added.now c.requires c.args.class)
