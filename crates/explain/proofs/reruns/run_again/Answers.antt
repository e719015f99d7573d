use Rattle.std.proofs.Common.{subst}
use Rattle.program.specs.Tables.{Tables}
use Rattle.machine.specs.Linked.{program_of}
use Rattle.semantics.specs.Quiet.{Environment}
use Rattle.semantics.proofs.RefusalsLemmas.{stop_excludes_lem}
use Rattle.region_shape.specs.Regions.{environment_of}
use Rattle.explain.specs.Reruns.{IsRerun}
use Rattle.explain.proofs.RerunsLemmas.{ends_at}
use Rattle.explain.proofs.reruns.run_again.Goals as goal

pub returns : goal.returns
returns c =
    subst (λ (env : Environment). IsRerun (program_of c.args.image.now.program) env c.args.class c.args.greatest
    (record { budget = c.in_ok-budget.budget; evaluation = c.in_ok-evaluation.evaluation })) c.in_ok-regions.ensures
    (subst (λ (P : Tables). IsRerun (program_of P) (environment_of c.in_ok-regions.regions) c.args.class c.args.greatest
    (record { budget = c.in_ok-budget.budget; evaluation = c.in_ok-evaluation.evaluation })) c.program-program.ensures
    (record {
      least = c.in_ok-budget.ensures;
      evaluation = ends_at stop_excludes_lem (program_of c.program-program.result.now)
          (environment_of c.in_ok-regions.regions) c.args.class c.args.greatest c.in_ok-budget.budget
          c.in_ok-evaluation.evaluation c.in_ok-budget.ensures c.in_ok-evaluation.ensures;
    }))
