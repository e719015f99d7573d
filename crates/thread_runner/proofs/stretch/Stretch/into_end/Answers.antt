use Rattle.std.proofs.Common.{subst}
use Rattle.thread_runner.specs.Stretches.{IsLocalRun, Reach}
use Rattle.thread_runner.proofs.LocalLemmas.{leads}
use Rattle.thread_runner.proofs.stretch.Stretch.into_end.Goals as goal

pub returns-clause-leads : goal.returns-clause-leads
returns-clause-leads g c =
    leads g.O.Origin.program c.args.self
    (subst (λ (s : Reach). IsLocalRun g.O.Origin.program s) c.self.view_is c.self.invariant.2)
