use Rattle.wave_scheduler.proofs.waves.try_wave.Given as goal

abbrev pub ghosts-run_wave : goal.ghosts-run_wave
ghosts-run_wave g a = record {
  program = a.wave.terms.program.now;
  regions = a.settled.now.regions;
  budget =
      a.wave.terms.budget;
}
