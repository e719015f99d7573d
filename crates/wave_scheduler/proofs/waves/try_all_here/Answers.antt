use Rattle.graph.specs.Rows.{rows_of}
use Rattle.wave_scheduler.specs.Outcomes.{settled_of}
use Rattle.wave_scheduler.proofs.PlansLemmas.{can_try}
use Rattle.wave_scheduler.proofs.waves.try_all_here.Goals as goal

pub loop-number-init : goal.loop-number-init
loop-number-init c = record { tried = c.requires.tried; tainted = c.requires.tainted }

pub try_wave_here-requires : goal.try_wave_here-requires
try_wave_here-requires c =
    can_try c.args.terms (rows_of c.args.waves.now) c.loop-number.number c.nth_wave-wave.result
    (settled_of c.args.settled.now) (settled_of c.loop-number.settled) c.args.tainted.now c.loop-number.tainted
    c.requires c.nth_wave-wave.ensures c.loop-number.invariant
