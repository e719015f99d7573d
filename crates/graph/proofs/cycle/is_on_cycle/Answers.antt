use Rattle.graph.proofs.ComponentsLemmas.{cycle_by_components}
use Rattle.graph.proofs.cycle.is_on_cycle.Goals as goal

pub returns : goal.returns
returns c =
    let tells = rw (c.successors.ensures.value, c.number.ensures) at c.leads_into.ensures in
    let cycle = cycle_by_components c.args.graph.now c.args.components.now c.args.vertex c.requires.components
    c.requires.vertex (rw c.successors.ensures.value at c.successors.ensures.within) in
    (λ h. cycle.0 (tells.0 h), λ on. tells.1 (cycle.1 on))
