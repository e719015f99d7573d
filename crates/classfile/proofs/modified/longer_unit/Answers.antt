use Rattle.classfile.proofs.PrintingLemmas.{two_at, three_at, cut_at, cut_at_two}
use Rattle.classfile.proofs.modified.longer_unit.Goals as goal

pub returns-then-first-lt224-clause-read : goal.returns-then-first-lt224-clause-read
returns-then-first-lt224-clause-read c =
    two_at _ _ _ _ _ c.in_ok-second.ensures.cases.0 c.requires c.if-first-lt224.true c.unit_of_two.ensures

pub returns-in_err-second-clause-read : goal.returns-in_err-second-clause-read
returns-in_err-second-clause-read c = rw c.from_residual.ensures (cut_at _ _ c.in_err-second.ensures.cases c.requires)

pub returns-in_err-third-clause-read : goal.returns-in_err-third-clause-read
returns-in_err-third-clause-read c =
    rw c.from_residual-in_err-third.ensures
    (cut_at_two _ _ _ _ c.in_ok-second.ensures.cases.0 c.in_err-third.ensures.cases c.if-first-lt224.false)

pub returns-clause-read : goal.returns-clause-read
returns-clause-read c =
    three_at _ _ _ _ _ _ _ c.in_ok-second.ensures.cases.0 c.in_ok-third.ensures.cases.0 c.if-first-lt224.false
    c.unit_of_three.ensures
