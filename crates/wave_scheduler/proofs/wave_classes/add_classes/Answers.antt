use Rattle.std.proofs.Common.{refl, arith}
use Rattle.graph.specs.Rows.{rows_of}
use Rattle.wave_scheduler.proofs.WaveMembersLemmas.{members_none, members_more, verdict_wave}
use Rattle.wave_scheduler.proofs.wave_classes.add_classes.Goals as goal

pub loop-class-init : goal.loop-class-init
loop-class-init c = members_none c.args.verdicts.now _ (rows_of c.args.waves.now.items) c.requires.none

pub loop-class-preserved : goal.loop-class-preserved
loop-class-preserved c =
    members_more c.args.verdicts.now c.loop-class.class _ (rows_of c.loop-class.waves.items)
    (rows_of c.add_class.new.waves.items) _ _ (omega arith) refl
    (λ n is. c.requires.above c.loop-class.class n (verdict_wave c.args.verdicts.now c.loop-class.class n _ _
    (omega arith) refl is)) c.loop-class.invariant c.in_ok-add_class.ensures
