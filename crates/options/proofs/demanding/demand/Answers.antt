use Rattle.std.proofs.Common.{List, subst}
use Rattle.std.specs.List.{All}
use Rattle.loading.specs.Families.{Family}
use Rattle.options.specs.Faults.{IsKnown}
use Rattle.options.proofs.BothLemmas.{demand_fails, unmatched_fails, on_ok}
use Rattle.options.proofs.demanding.demand.Goals as goal

pub returns-in-Ok-clause-known : goal.returns-in-Ok-clause-known
returns-in-Ok-clause-known c =
    on_ok c.demand_of.result _
    (subst (λ (f : Family). All (IsKnown f) c.args.patterns.now) c.family-family.ensures c.in-Ok.ensures.known)

pub returns-in-Ok-clause-fault : goal.returns-in-Ok-clause-fault
returns-in-Ok-clause-fault c =
    rw (← c.family-family.ensures)
    (demand_fails c.family-family.result.now c.args.patterns.now c.in-Ok.flags.items c.args.forced.now
    c.demand_of.result c.in-Ok.ensures.known c.in-Ok.ensures.demanded c.demand_of.ensures.fault)

pub returns-in-Err-clause-fault : goal.returns-in-Err-clause-fault
returns-in-Err-clause-fault c =
    rw (← c.family-family.ensures)
    (unmatched_fails c.family-family.result.now c.args.patterns.now c.args.forced.now c.in-Err.fault
    c.in-Err.ensures.fault)
