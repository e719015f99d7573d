use Rattle.building.proofs.RefusalLemmas.{checked_settles, no_memory_settles}
use Rattle.building.proofs.settling.settle_asked_here.Goals as goal

pub returns-in-Ok : goal.returns-in-Ok
returns-in-Ok c =
    checked_settles c.args.program.now c.args.asked c.args.budget c.in-Ok.settled c.checked.result
    (c.in-Ok.ensures.settled c.args.asked.forced c.requires) c.checked.ensures.same c.checked.ensures.met
    c.checked.ensures.fault

pub returns : goal.returns
returns c =
    no_memory_settles c.args.program.now c.args.asked c.args.budget c.of_wave.result
    (c.of_wave.ensures.memory c.in-Err.ensures.fault)
