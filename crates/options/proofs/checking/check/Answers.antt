use Rattle.std.proofs.Common.{inr, arith}
use Rattle.options.proofs.UnmetLemmas.{none_off_more, all_met, one_unmet, as_many}
use Rattle.options.proofs.checking.check.Goals as goal

pub demanded-requires : goal.demanded-requires
demanded-requires c =
    let many = as_many c.args.program.now c.classes-tables.ensures.fits in
    rw c.family.ensures (omega (arith, many, c.given_count-class-end.ensures.value, c.loop-class-test.true))

pub loop-class-preserved : goal.loop-class-preserved
loop-class-preserved c =
    none_off_more c.args.program.now c.args.demand.now c.args.settled.now c.loop-class.class c.unmet.result c.in-None.is
    c.loop-class.invariant (rw c.as_slice-verdicts.ensures at c.unmet.ensures)

pub returns-clause-met : goal.returns-clause-met
returns-clause-met c =
    all_met c.args.program.now c.args.demand.now c.args.settled.now c.loop-class.class
    (omega (arith, c.given_count-class-end.ensures.value)) c.loop-class.invariant

pub returns-in-Some-clause-fault : goal.returns-in-Some-clause-fault
returns-in-Some-clause-fault c =
    inr (one_unmet c.args.program.now c.args.demand.now c.args.settled.now c.loop-class.class
    c.given_count-class-end.result c.in-Some.reason _ c.given_count-class-end.ensures.value c.loop-class-test.true
    c.loop-class.invariant (rw c.as_slice-verdicts.ensures at c.in-Some.ensures)
    (rw c.family.ensures at c.in_ok-demanded-in-Some.ensures))
