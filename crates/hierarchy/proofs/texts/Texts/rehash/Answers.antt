use Rattle.std.proofs.Common.{sym, subst}
use Rattle.hierarchy.specs.Texts.{AreDistinct}
use Rattle.hierarchy.specs.steps.HeldTexts.{texts_of}
use Rattle.hierarchy.proofs.TextNumbersLemmas.{distinct_found}
use Rattle.hierarchy.proofs.texts.Texts.rehash.Goals as goal

pub numbers_of-requires : goal.numbers_of-requires
numbers_of-requires c =
    subst (λ held. AreDistinct (texts_of held)) (sym c.as_slice.ensures.value)
    (distinct_found (texts_of c.self.inside.texts.items) c.self.inside.numbers c.self.invariant)
