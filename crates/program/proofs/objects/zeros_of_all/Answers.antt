use Rattle.std.proofs.Common.{length, ap, subst, sym, arith}
use Rattle.std.proofs.lemmas.List.{length_push}
use Rattle.program.specs.steps.Slots.{AreZeros}
use Rattle.program.proofs.ZerosLemmas.{no_zeros, zeros_next}
use Rattle.program.proofs.objects.zeros_of_all.Goals as goal

pub loop-class-init : goal.loop-class-init
loop-class-init c = record {
  count = ap length c.in_ok-zeros.ensures.items;
  zeros = subst (AreZeros c.args.family.now) (sym c.in_ok-zeros.ensures.items) (no_zeros c.args.family.now);
}

pub loop-class-preserved : goal.loop-class-preserved
loop-class-preserved c = record {
  count = omega (
    arith,
    ap length c.in_ok-push.ensures.items,
    length_push c.loop-class.zeros.items c.in_ok-slots.slots,
    c.loop-class.invariant.count,
  );
  zeros = subst (AreZeros c.args.family.now) (sym c.in_ok-push.ensures.items)
      (zeros_next c.args.family.now c.loop-class.zeros.items c.loop-class.class c.in_ok-slots.slots
      c.loop-class.invariant.count c.in_ok-slots.ensures c.loop-class.invariant.zeros);
}
