use Rattle.std.proofs.Common.{sym}
use Rattle.program.proofs.AheadLemmas.{ahead_more}
use Rattle.program.proofs.resolver.Resolver.resolve_ahead.Goals as goal

pub returns-clause-ahead : goal.returns-clause-ahead
returns-clause-ahead c =
    rw c.set.ensures (ahead_more c.args.self.now.hierarchy.now.family c.args.self.now.file.now c.args.ahead.now
    c.args.index c.in-Some.constant.now c.in_ok-held.held c.requires.ahead (sym c.in-Some.ensures)
    c.in_ok-held.ensures.held)
