use Rattle.std.proofs.Common.{inl, inr, option_map}
use Rattle.machine.specs.Linked.{program_of}
use Rattle.region_shape.specs.Regions.{environment_of, region_of}
use Rattle.wave_scheduler.specs.Outcomes.{outcome_of}
use Rattle.wave_scheduler.proofs.CrewsLemmas.{run_by}
use Rattle.wave_scheduler.proofs.finding.find.Goals as goal

pub returns-in-Ok : goal.returns-in-Ok
returns-in-Ok g c =
    let P = program_of c.args.wave.terms.program.now in
    let outcome = outcome_of c.found_of.result.verdict in
    let held = option_map region_of c.found_of.result.region in
    rw c.in-None.is (elim c.in-Ok.ensures [
      | inl theirs ↦ inl (run_by P (environment_of g.W.Lent.regions) c.args.wave.terms.budget c.args.wave.number
          c.args.class
          c.in-Ok.outcome outcome held theirs c.found_of.ensures)
      | inr own ↦ inr (run_by P (environment_of c.args.regions.now) c.args.wave.terms.budget c.args.wave.number
          c.args.class
          c.in-Ok.outcome outcome held own c.found_of.ensures)
    ])
