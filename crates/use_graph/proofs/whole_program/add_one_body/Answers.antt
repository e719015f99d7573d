use Rattle.std.proofs.Common.{sym}
use Rattle.use_graph.proofs.whole_program.add_one_body.Goals as goal

pub returns-clause-uses : goal.returns-clause-uses
returns-clause-uses c =
    let at = sym c.in-Some.ensures.value in
    (c.in-Some.method, c.in_ok-uses.uses, at, c.in_ok-push.ensures.items, c.in_ok-uses.ensures.uses)
