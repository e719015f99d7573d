use Rattle.std.proofs.Common.{ℕ, List, sym, subst}
use Rattle.use_graph.specs.declared.body.BodyUses.{BodyUses}
use Rattle.use_graph.specs.steps.Deeds.{HoldsOfOne}
use Rattle.initializer_analysis.specs.Least.{AreLeast}
use Rattle.initializer_analysis.specs.steps.RefusedUses.{IsRefusedOf}
use Rattle.initializer_analysis.proofs.LabelsLemmas.{labels_at_place, no_labels_at}
use Rattle.initializer_analysis.proofs.refused_uses.refused_at.Goals as goal

pub returns-in-Some : goal.returns-in-Some
returns-in-Some c =
    let R = IsRefusedOf c.args.refused.now c.args.limit in
    let body = c.in-Some.body.now in
    labels_at_place c.args.uses.now.bodies.items c.args.vertex body
    (λ (b : BodyUses). HoldsOfOne R b.needs.items) (HoldsOfOne R body.needs.items)
    c.refused_among.result (sym c.in-Some.ensures) (λ l p. p) (λ l p. p)
    (subst (λ (needs : List ℕ). AreLeast (HoldsOfOne R needs) c.refused_among.result) c.deref.ensures.value
    c.refused_among.ensures)

pub returns-in-None : goal.returns-in-None
returns-in-None c =
    no_labels_at c.args.uses.now.bodies.items c.args.vertex
    (λ (b : BodyUses). HoldsOfOne (IsRefusedOf c.args.refused.now c.args.limit) b.needs.items) c.none.result
    (sym c.in-None.ensures) c.none.ensures
