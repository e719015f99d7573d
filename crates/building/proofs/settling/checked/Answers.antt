use Rattle.options.specs.Demands.{IsUnmet}
use Rattle.wave_scheduler.specs.Outcomes.{settled_of}
use Rattle.building.proofs.RefusalLemmas.{of_option_by}
use Rattle.building.proofs.settling.checked.Goals as goal

pub returns-in-Err-clause-fault : goal.returns-in-Err-clause-fault
returns-in-Err-clause-fault c =
    of_option_by (IsUnmet c.args.program.now c.args.demand.now (settled_of c.args.settled)) c.in-Err.fault
    c.of_option.result c.in-Err.ensures.fault c.of_option.ensures.memory c.of_option.ensures.other
