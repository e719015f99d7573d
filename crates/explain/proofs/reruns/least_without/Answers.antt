use Rattle.std.proofs.Common.{◌∙◌, IfOk, ap, subst}
use Rattle.semantics.specs.Quiet.{Environment}
use Rattle.machine.specs.Linked.{program_of}
use Rattle.region_shape.specs.Regions.{environment_of}
use Rattle.explain.specs.Reruns.{IsLeast}
use Rattle.explain.proofs.TakenLemmas.{taken_out}
use Rattle.explain.proofs.reruns.least_without.Goals as goal

pub returns-in-Some-clause-least : goal.returns-in-Some-clause-least
returns-in-Some-clause-least c =
    subst (λ (env : Environment).
    IfOk c.least_budget-found.result
    (IsLeast (program_of c.args.program.now) env c.args.class c.args.greatest))
    (ap environment_of c.take-own.ensures.left ∙ taken_out c.args.regions.now c.args.class)
    c.least_budget-found.ensures

pub returns-in-None-clause-least : goal.returns-in-None-clause-least
returns-in-None-clause-least c =
    subst (λ (env : Environment).
    IfOk c.least_budget-found.result
    (IsLeast (program_of c.args.program.now) env c.args.class c.args.greatest))
    (ap environment_of c.take-own.ensures.left ∙ taken_out c.args.regions.now c.args.class)
    c.least_budget-found.ensures
