use Rattle.classfile.proofs.PrintingLemmas.{one_at, empty_read}
use Rattle.classfile.proofs.modified.first_unit.Goals as goal

pub returns-in_err-first-clause-read : goal.returns-in_err-first-clause-read
returns-in_err-first-clause-read c = rw c.from_residual.ensures (empty_read _ c.in_err-first.ensures.cases)

pub returns-then-first-lt192-clause-read : goal.returns-then-first-lt192-clause-read
returns-then-first-lt192-clause-read c =
    one_at _ _ _ _ c.in_ok-first.ensures.cases.0 c.if-first-lt192.true c.from.ensures

pub returns-clause-read : goal.returns-clause-read
returns-clause-read c = rw c.in_ok-first.ensures.cases.0 c.longer_unit.ensures.read
