use Rattle.image_parser.proofs.FlagLemmas.{inside_fails}
use Rattle.image_parser.proofs.FlagReadsLemmas.{inside_held}
use Rattle.image_parser.proofs.flags.flag_in.Goals as goal

pub returns-in-Ok : goal.returns-in-Ok
returns-in-Ok c =
    inside_held c.args.program.now c.flag_at.new.program c.args.class _ c.in-Ok.read.1.now _ c.in-Ok.ensures

pub returns-in-Err : goal.returns-in-Err
returns-in-Err c =
    rw c.inside.ensures
    (inside_fails c.args.class c.in-Err.fault _ c.in-Err.ensures.0, c.in-Err.ensures.1)
