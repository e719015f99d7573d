use Rattle.wave_scheduler.proofs.WaveMembersLemmas.{joins_pushed}
use Rattle.wave_scheduler.proofs.wave_classes.add_class.Goals as goal

pub returns-in_ok-push-in-Wave : goal.returns-in_ok-push-in-Wave
returns-in_ok-push-in-Wave c =
    joins_pushed c.args.waves.now.items c.args.class c.in-Wave.wave c.args.verdict c.index_mut.result.now
    c.push.new.self
    c.in-Wave.is (c.requires c.in-Wave.wave c.in-Wave.is) c.index_mut.ensures.value c.in_ok-push-in-Wave.ensures.items
