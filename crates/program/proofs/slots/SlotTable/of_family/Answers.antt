use Rattle.std.proofs.Common.{sym, subst}
use Rattle.program.specs.steps.Slots.{AreSlots}
use Rattle.program.proofs.slots.SlotTable.of_family.Goals as goal

pub returns : goal.returns
returns c = subst (AreSlots c.args.family.now) (sym c.with_zeros.ensures) (record {
  added = c.in_ok-tables.ensures.added;
  chains = c.in_ok-tables.ensures.chains;
  zeros = c.in_ok-zeros.ensures;
})
