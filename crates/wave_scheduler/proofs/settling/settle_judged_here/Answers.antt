use Rattle.std.proofs.Common.{sym, ◌∙◌}
use Rattle.std.proofs.lemmas.List.{length-map}
use Rattle.std.proofs.lemmas.Result.{IfOk-weaker}
use Rattle.wave_scheduler.specs.Outcomes.{outcome_of, settled_of}
use Rattle.wave_scheduler.proofs.TriesLemmas.{waves_start_lem}
use Rattle.wave_scheduler.proofs.CrewsLemmas.{all_follow}
use Rattle.wave_scheduler.proofs.settling.settle_judged_here.Goals as goal

pub try_all_here-requires : goal.try_all_here-requires
try_all_here-requires c =
    let (forced, are) = c.requires in
    record {
      judged = c.requires;
      members = rw c.as_slice.ensures.value c.in_ok-plan.ensures.waves;
      tried = waves_start_lem c.args.terms.program.now forced c.args.terms.budget c.args.terms.verdicts.now
          (settled_of c.in_ok-plan.plan.settled) are c.in_ok-plan.ensures.starts;
      tainted = c.in_ok-plan.ensures.tainted;
    }

pub into_settled-requires-clause-count : goal.into_settled-requires-clause-count
into_settled-requires-clause-count c =
    sym (length-map c.try_all_here.new.settled.verdicts outcome_of) ∙ c.in_ok-try_all_here.ensures.count

pub returns : goal.returns
returns c =
    IfOk-weaker c.into_settled.result _ _
    (λ settled first. all_follow c.args.terms.program.now c.args.terms.budget c.args.terms.verdicts.now
    c.in_ok-plan.plan.waves.items (settled_of c.try_all_here.new.settled) (settled_of settled) c.requires
    c.in_ok-plan.ensures.waves (rw c.as_slice.ensures.value at c.in_ok-try_all_here.ensures) first)
    c.into_settled.ensures
