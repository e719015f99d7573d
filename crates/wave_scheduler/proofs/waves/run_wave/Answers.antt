use Rattle.std.proofs.Common.{subst, slice_index, [], arith}
use Rattle.loading.specs.Families.{Family, IsFamily, AreParentsWithin}
use Rattle.region_shape.specs.Regions.{environment_of}
use Rattle.wave_scheduler.specs.Outcomes.{settled_of}
use Rattle.wave_scheduler.proofs.FindingLemmas.{region_seen}
use Rattle.wave_scheduler.proofs.TaintedLemmas.{searched}
use Rattle.wave_scheduler.proofs.TryingLemmas.{tries_none, can_run, wave_at}
use Rattle.wave_scheduler.proofs.waves.run_wave.Goals as goal

pub results_of-requires-clause-wave : goal.results_of-requires-clause-wave
results_of-requires-clause-wave g c = λ κs alive. record {
  program = c.requires.lent;
  regions = c.requires.regions;
  budget = c.requires.budget;
  searched = searched c.args.wave.terms.program.now (settled_of c.args.settled.now) c.args.tainted.now
      c.requires.wave.tainted;
  ready = λ i low unseen.
      let (forced, are) = c.requires.wave.judged in
      let P = c.args.wave.terms.program.now in
      let old = settled_of c.args.settled.now in
      let members = c.args.wave.classes.now in
      let fits = subst IsFamily c.family.ensures c.classes-given.ensures.fits in
      let within = subst (λ (f : Family). AreParentsWithin f) c.family.ensures c.classes-given.ensures.within in
      can_run P forced c.args.wave.terms.budget c.args.wave.terms.verdicts.now c.args.wave.number old
      c.classes-tables.ensures.fits fits within are
      c.requires.wave.tried [] old c.args.tainted.now
      (tries_none P forced c.args.wave.terms.budget c.args.wave.terms.verdicts.now c.args.wave.number old
      c.classes-tables.ensures.fits fits within
      are c.requires.wave.tried) c.requires.wave.tainted (slice_index members i)
      (wave_at c.args.wave.terms.verdicts.now c.args.wave.number members i c.requires.wave.members low) (λ there. omega
      (arith, there.1))
      (environment_of c.args.settled.now.regions) (λ d. region_seen c.args.settled.now.regions d) unseen;
}
