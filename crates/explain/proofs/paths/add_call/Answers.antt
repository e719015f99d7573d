use Rattle.std.proofs.Common.{Option, MatchOption, subst, ℕ}
use Rattle.use_graph.specs.Uses.{Calls}
use Rattle.explain.specs.Paths.{CallsAt}
use Rattle.explain.proofs.paths.add_call.Goals as goal

pub unreachable-requires-in_default-call_site : goal.unreachable-requires-in_default-call_site
unreachable-requires-in_default-call_site c =
    let P = c.args.program.now in
    let caller = c.in-Some.caller.method in
    let callee = c.args.callee.method in
    subst (λ (o : Option ℕ). MatchOption o (¬ Calls P caller.class caller.index callee.class callee.index)
    (λ pc. CallsAt P caller.class caller.index pc callee.class callee.index)) c.in_default-call_site.is
    c.call_site.ensures (c.in-Some.ensures P callee c.requires).calls
