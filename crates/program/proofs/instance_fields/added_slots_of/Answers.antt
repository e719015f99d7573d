use Rattle.std.proofs.Common.{◌<◌, length, arith}
use Rattle.program.specs.steps.Slots.{AreAdded}
use Rattle.program.proofs.ZipLemmas.{one_more}
use Rattle.program.proofs.instance_fields.added_slots_of.Goals as goal

pub loop-given-preserved : goal.loop-given-preserved
loop-given-preserved c =
    let within : c.loop-given.given-index < length c.args.classes.now = omega arith in
    one_more AreAdded c.args.classes.now c.loop-given.added.items c.push.new.self.items
    c.loop-given.given-index c.given-item.result c.in_ok-added_by.field-0 within c.given-item.is
    c.loop-given.invariant c.in_ok-added_by.ensures c.in_ok-push.ensures.items
