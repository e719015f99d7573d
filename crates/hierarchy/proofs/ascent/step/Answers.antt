use Rattle.std.proofs.lemmas.Result.{on_ok_weaker}
use Rattle.hierarchy.proofs.ascent.step.Goals as goal

pub returns-in-Enter-clause-ascending : goal.returns-in-Enter-clause-ascending
returns-in-Enter-clause-ascending c = rw c.in-Enter.is c.enter.ensures.ascending

pub returns-in-Leave-clause-ascending : goal.returns-in-Leave-clause-ascending
returns-in-Leave-clause-ascending c =
    rw c.in-Leave.is (on_ok_weaker c.leave.result (λ ascending. ascending c.args.family.now) c.leave.ensures.ascending)
