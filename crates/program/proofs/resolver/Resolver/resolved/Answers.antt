use Rattle.std.proofs.Common.{sym}
use Rattle.program.proofs.resolver.Resolver.resolved.Goals as goal

pub returns-in-Some-clause-held : goal.returns-in-Some-clause-held
returns-in-Some-clause-held c =
    c.requires.ahead c.args.index c.args.constant.now c.in-Some.held c.requires.here (sym c.in-Some.ensures)
