use Rattle.building.proofs.RefusalLemmas.{asked_settles, not_asked_settles}
use Rattle.building.proofs.settling.settle_by_workers.Goals as goal

pub returns-in-Ok : goal.returns-in-Ok
returns-in-Ok g c =
    asked_settles c.args.program.now c.args.options.now c.in-Ok.asked c.settle_asked.result c.in-Ok.ensures.asked
    c.settle_asked.ensures

pub returns-in-Err : goal.returns-in-Err
returns-in-Err g c =
    not_asked_settles c.args.program.now c.args.options.now c.in-Err.fault c.in-Err.ensures.fault
