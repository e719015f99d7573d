use Rattle.std.proofs.Common.{arith}
use Rattle.graph.specs.Rows.{rows_of}
use Rattle.wave_scheduler.proofs.WaveMembersLemmas.{members_all}
use Rattle.wave_scheduler.proofs.wave_classes.classes_by_wave.Goals as goal

pub returns-in-Ok : goal.returns-in-Ok
returns-in-Ok c =
    members_all c.args.verdicts.now c.args.count _ (rows_of c.add_classes.new.waves.items) (omega arith) c.in-Ok.ensures
