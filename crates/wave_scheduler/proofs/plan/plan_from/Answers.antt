use Rattle.std.proofs.Common.{sym, ◌∙◌, arith}
use Rattle.std.proofs.lemmas.List.{length-map}
use Rattle.wave_scheduler.specs.Outcomes.{outcome_of}
use Rattle.wave_scheduler.proofs.FewWavesLemmas.{few_waves_lem}
use Rattle.wave_scheduler.proofs.plan.plan_from.Goals as goal

pub classes_by_wave-requires-clause-count : goal.classes_by_wave-requires-clause-count
classes_by_wave-requires-clause-count c =
    let (forced, are) = c.requires.judged in
    are.count ∙ sym c.given_count.ensures.value

pub classes_by_wave-requires-clause-waves : goal.classes_by_wave-requires-clause-waves
classes_by_wave-requires-clause-waves c = λ d n at.
    let (forced, are) = c.requires.judged in
    let few = few_waves_lem c.args.program.now forced c.args.verdicts.now are d n at in
    omega (arith, c.given_count.ensures.value, c.given_count.ensures.few)

pub of-requires-clause-count : goal.of-requires-clause-count
of-requires-clause-count c =
    let (forced, are) = c.requires.judged in
    sym (length-map c.args.settled.verdicts outcome_of) ∙ c.requires.starts.count ∙ are.count

pub returns-in-Ok : goal.returns-in-Ok
returns-in-Ok c = record {
  uses = c.requires.uses;
  waves = c.in_ok-waves.ensures;
  starts = c.requires.starts;
  tainted = c.in-Ok.ensures;
}
