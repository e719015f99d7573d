use Rattle.std.proofs.Common.{◌≡◌, Vec, Global, length}
use Rattle.initializer_analysis.specs.declared.labels.Least.{Least}
use Rattle.initializer_analysis.specs.steps.LeastReached.{AreLeastReached}
use Rattle.initializer_analysis.specs.steps.RefusedUses.{NeedsRefused, AreRefusedNeeds}
use Rattle.initializer_analysis.proofs.LabelsLemmas.{least_of_own, IfOk-two}
use Rattle.initializer_analysis.proofs.refused_uses.refused_needs.Goals as goal

pub returns : goal.returns
returns c =
    let uses = c.args.uses.now in
    let refused = c.args.refused.now in
    let limit = c.args.limit in
    let own = c.in_ok-own.own.items in
    IfOk-two (λ (t : Vec Least Global). length t.items ≡ length uses.calls)
    (λ (t : Vec Least Global). AreLeastReached uses.calls own t.items)
    (λ (t : Vec Least Global). AreRefusedNeeds uses refused limit t.items) c.least_reached.result
    (λ t len reached. record {
      len = len;
      least = least_of_own uses.calls own t.items (NeedsRefused uses.bodies.items refused limit)
          c.in_ok-own.ensures.own reached;
    })
    c.least_reached.ensures.len (rw c.as_slice.ensures.value at c.least_reached.ensures.least)
