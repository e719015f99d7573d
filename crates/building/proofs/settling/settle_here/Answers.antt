use Rattle.building.proofs.RefusalLemmas.{asked_settles, not_asked_settles}
use Rattle.building.proofs.settling.settle_here.Goals as goal

pub returns-in-Ok : goal.returns-in-Ok
returns-in-Ok c =
    asked_settles c.args.program.now c.args.options.now c.in-Ok.asked c.settle_asked_here.result c.in-Ok.ensures.asked
    c.settle_asked_here.ensures

pub returns-in-Err : goal.returns-in-Err
returns-in-Err c =
    not_asked_settles c.args.program.now c.args.options.now c.in-Err.fault c.in-Err.ensures.fault
