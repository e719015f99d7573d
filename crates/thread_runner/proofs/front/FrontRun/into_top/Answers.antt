use Rattle.std.proofs.Common.{subst}
use Rattle.thread_runner.specs.Fronts.{FrontReach, LeadsOn}
use Rattle.thread_runner.proofs.front.FrontRun.into_top.Goals as goal

pub returns-clause-leads : goal.returns-clause-leads
returns-clause-leads g c =
    subst (λ (s : FrontReach). LeadsOn g.O.Origin.program s) c.self.view_is c.self.invariant.1
