use Rattle.std.proofs.Common.{List, subst}
use Rattle.std.specs.List.{All}
use Rattle.loading.specs.Families.{Family}
use Rattle.options.specs.Faults.{IsKnown}
use Rattle.options.proofs.forcing.force.Goals as goal

pub returns-in-Ok-clause-known : goal.returns-in-Ok-clause-known
returns-in-Ok-clause-known c =
    subst (λ (f : Family). All (IsKnown f) c.args.patterns.now) c.family-family.ensures c.in-Ok.ensures.known
