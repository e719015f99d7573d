use Rattle.graph.specs.Rows.{rows_of}
use Rattle.wave_scheduler.specs.Outcomes.{settled_of}
use Rattle.wave_scheduler.proofs.PlansLemmas.{can_try}
use Rattle.wave_scheduler.proofs.waves.try_all.Goals as goal

pub loop-number-init : goal.loop-number-init
loop-number-init g c = record { tried = c.requires.waves.tried; tainted = c.requires.waves.tainted }

pub try_wave-requires-clause-wave : goal.try_wave-requires-clause-wave
try_wave-requires-clause-wave g c = λ κs alive.
    can_try c.args.terms (rows_of c.args.waves.now) c.loop-number.number c.nth_wave-wave.result
    (settled_of c.args.settled.now) (settled_of c.loop-number.settled) c.args.tainted.now c.loop-number.tainted
    c.requires.waves c.nth_wave-wave.ensures c.loop-number.invariant
