use Rattle.std.proofs.Common.{sym, subst}
use Rattle.program.specs.steps.Slots.{AreZeros}
use Rattle.program.proofs.ZerosLemmas.{no_zeros}
use Rattle.program.proofs.slots.with_chains.Goals as goal

pub returns-in-Ok : goal.returns-in-Ok
returns-in-Ok c = record {
  added = c.requires;
  chains = c.in-Ok.ensures;
  zeros = subst (AreZeros c.args.family.now) (sym c.new.ensures.items) (no_zeros c.args.family.now);
}
