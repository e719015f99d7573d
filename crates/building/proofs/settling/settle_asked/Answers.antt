use Rattle.building.proofs.RefusalLemmas.{checked_settles, memory_alone, no_memory_settles}
use Rattle.building.proofs.settling.settle_asked.Goals as goal

pub returns-in-Ok : goal.returns-in-Ok
returns-in-Ok g c =
    checked_settles c.args.program.now c.args.asked c.args.budget c.in-Ok.settled c.checked.result
    (c.in-Ok.ensures.settled c.args.asked.forced c.requires.verdicts) c.checked.ensures.same c.checked.ensures.met
    c.checked.ensures.fault

pub returns : goal.returns
returns g c =
    no_memory_settles c.args.program.now c.args.asked c.args.budget c.of_wave.result
    (c.of_wave.ensures.memory (memory_alone c.in-Err.fault c.args.workers c.requires.workers c.in-Err.ensures.fault))
