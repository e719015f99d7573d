use Rattle.std.proofs.Common.{take}
use Rattle.wave_scheduler.specs.Outcomes.{settled_of}
use Rattle.wave_scheduler.specs.steps.Finding.{TriesThese}
use Rattle.wave_scheduler.specs.steps.Tainting.{AreTainted}
use Rattle.wave_scheduler.proofs.waves.collect.Given as goal

abbrev pub invariant-loop-class : goal.invariant-loop-class
invariant-loop-class g l = record {
  tries : TriesThese l.wave.terms.program.now l.wave.terms.budget l.wave.terms.verdicts.now l.wave.number
      (take l.class-index l.wave.classes.now) (settled_of l.initial.settled) (settled_of l.settled);
  tainted : AreTainted l.wave.terms.program.now (settled_of l.settled) l.tainted;
}
