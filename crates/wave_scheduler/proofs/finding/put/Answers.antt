use Rattle.wave_scheduler.proofs.FindingLemmas.{sets_class}
use Rattle.wave_scheduler.proofs.finding.put.Goals as goal

pub returns : goal.returns
returns c =
    sets_class c.args.settled.now.verdicts c.put.new.self c.args.settled.now.regions
    c.put_region.new.regions c.args.class c.args.found.verdict c.args.found.region c.requires.class c.requires.place
    c.put.ensures c.put_region.ensures
