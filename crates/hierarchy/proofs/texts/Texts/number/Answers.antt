use Rattle.std.proofs.Common.{◌≡◌, ◌∙◌, Some, MatchOption, slice_get, subst}
use Rattle.std.specs.List.{Contains}
use Rattle.hierarchy.specs.Texts.{AreDistinct}
use Rattle.hierarchy.specs.steps.HeldTexts.{texts_of}
use Rattle.hierarchy.proofs.TextNumbersLemmas.{distinct_found, numbered_found}
use Rattle.hierarchy.proofs.texts.Texts.number.Goals as goal

pub returns-clause-number : goal.returns-clause-number
returns-clause-number c =
    let text = c.args.text.now in
    subst (λ ts. MatchOption c.copied.result (¬ Contains ts text) (λ n. slice_get ts n ≡ Some text)) c.self.view_is
    (numbered_found (texts_of c.self.inside.texts.items) c.self.inside.numbers text c.copied.result c.self.invariant
    (c.copied.ensures ∙ c.get.ensures.value))

pub returns-clause-distinct : goal.returns-clause-distinct
returns-clause-distinct c =
    subst AreDistinct c.self.view_is
    (distinct_found (texts_of c.self.inside.texts.items) c.self.inside.numbers c.self.invariant)
