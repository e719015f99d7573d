use Rattle.wave_scheduler.proofs.waves.try_wave_here.Given as goal

abbrev pub ghosts-run_wave_here : goal.ghosts-run_wave_here
ghosts-run_wave_here a = record {
  program = a.wave.terms.program.now;
  regions = a.settled.now.regions;
  budget =
      a.wave.terms.budget;
}
