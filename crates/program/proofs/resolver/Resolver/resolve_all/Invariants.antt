use Rattle.std.proofs.Common.{◌≡◌}
use Rattle.program.specs.steps.Ahead.{AreAhead}
use Rattle.program.proofs.resolver.Resolver.resolve_all.Given as goal

abbrev pub invariant-loop-reference : goal.invariant-loop-reference
invariant-loop-reference l = record {
  members : l.members ≡ l.initial.members;
  ahead : AreAhead l.self.hierarchy.now.family l.self.file.now l.ahead;
}
