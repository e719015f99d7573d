use Rattle.program.proofs.AheadLemmas.{ahead_of_none}
use Rattle.program.proofs.resolver.Resolver.members_ahead.Goals as goal

pub resolve_all-requires-clause-ahead : goal.resolve_all-requires-clause-ahead
resolve_all-requires-clause-ahead c =
    ahead_of_none c.args.self.now.hierarchy.now.family c.args.self.now.file.now c.in_ok-ahead.ahead
    c.in_ok-ahead.ensures
