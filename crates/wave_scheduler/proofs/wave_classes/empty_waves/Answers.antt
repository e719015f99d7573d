use Rattle.graph.proofs.RowsLemmas.{one_empty_row_more}
use Rattle.wave_scheduler.proofs.wave_classes.empty_waves.Goals as goal

pub loop-wave-preserved : goal.loop-wave-preserved
loop-wave-preserved c =
    one_empty_row_more c.loop-wave.waves.items c.push.new.self.items c.new.result c.loop-wave._wave
    c.in_ok-push.ensures.items c.loop-wave.invariant c.new.ensures.items
