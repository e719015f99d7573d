use Rattle.std.proofs.Common.{◌≡◌, ℕ, List, Some, slice_get, slice_index_or, ap, ◌∙◌, subst}
use Rattle.std.specs.List.{Contains}
use Rattle.graph.specs.Seen.{Seen}
use Rattle.hierarchy.specs.steps.Ancestors.{AncestorList}
use Rattle.hierarchy.proofs.ancestors.Ancestors.place.Goals as goal

pub returns-then-has : goal.returns-then-has
returns-then-has c =
    let class = c.args.class in
    let items : List ℕ = c.self.inside.ascent.entered.items in
    let among : Contains items class =
    subst (λ (v : Seen). Contains v.items class) c.entered.ensures (c.has.ensures.0 c.if-has.true) in
    subst (λ (a : AncestorList). slice_get a.items c.place_in.result ≡ Some class) c.self.view_is
    (ap (slice_get items) (c.place_in.ensures ∙ ap (λ (l : List ℕ). slice_index_or l class 0) c.deref.ensures.value)
    ∙ c.self.invariant.noted class among)
