use Rattle.std.proofs.Common.{sym, ◌∙◌}
use Rattle.program.proofs.AheadLemmas.{same_resolved}
use Rattle.program.proofs.resolver.Resolver.resolved_once.Goals as goal

pub returns-in-Some-clause-held : goal.returns-in-Some-clause-held
returns-in-Some-clause-held c =
    let e = c.in-Some.ensures in
    same_resolved c.args.self.now.hierarchy.now.family c.args.self.now.file.now e.0 c.args.index c.args.constant.now
    c.in-Some.held (e.1 ∙ sym c.requires.here) (c.requires.ahead e.0 c.args.constant.now c.in-Some.held e.1 e.2)
