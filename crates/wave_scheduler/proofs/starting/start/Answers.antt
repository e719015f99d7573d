use Rattle.wave_scheduler.proofs.FindingLemmas.{starts_from}
use Rattle.wave_scheduler.proofs.starting.start.Goals as goal

pub returns-in-Ok : goal.returns-in-Ok
returns-in-Ok c =
    starts_from c.args.verdicts.now c.in-Ok.verdicts c.in_ok-regions.regions c.in-Ok.ensures
    c.in_ok-regions.ensures
