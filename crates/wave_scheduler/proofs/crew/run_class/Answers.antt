use Rattle.std.proofs.Common.{sym}
use Rattle.wave_scheduler.proofs.crew.run_class.Goals as goal

pub new-requires : goal.new-requires
new-requires g c = rw (sym c.requires.program, sym c.requires.regions, sym c.requires.budget) c.in-Ok.ensures
