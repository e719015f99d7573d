use Rattle.std.proofs.Common.{List, sym, subst}
use Rattle.use_graph.specs.declared.body.Told.{Told}
use Rattle.use_graph.specs.declared.body.BodyUses.{BodyUses}
use Rattle.use_graph.specs.steps.Deeds.{HoldsOfOne}
use Rattle.initializer_analysis.specs.Least.{AreLeast}
use Rattle.initializer_analysis.specs.steps.Marking.{IsLabelOf}
use Rattle.initializer_analysis.proofs.LabelsLemmas.{labels_at_place, no_labels_at}
use Rattle.initializer_analysis.proofs.marking.labels_at.Goals as goal

pub returns-in-Some : goal.returns-in-Some
returns-in-Some c =
    let mark = c.args.mark in
    let body = c.in-Some.body.now in
    labels_at_place c.args.uses.now.bodies.items c.args.vertex body
    (λ (b : BodyUses). HoldsOfOne (IsLabelOf mark) b.told.items) (HoldsOfOne (IsLabelOf mark) body.told.items)
    c.labels_told.result (sym c.in-Some.ensures) (λ l p. p) (λ l p. p)
    (subst (λ (told : List Told). AreLeast (HoldsOfOne (IsLabelOf mark) told) c.labels_told.result)
    c.deref.ensures.value c.labels_told.ensures)

pub returns-in-None : goal.returns-in-None
returns-in-None c =
    no_labels_at c.args.uses.now.bodies.items c.args.vertex
    (λ (b : BodyUses). HoldsOfOne (IsLabelOf c.args.mark) b.told.items) c.none.result (sym c.in-None.ensures)
    c.none.ensures
