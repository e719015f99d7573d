use Rattle.std.proofs.Common.{◌≡◌, Some, MatchOption, slice_get, subst}
use Rattle.std.specs.List.{Contains}
use Rattle.hierarchy.specs.Texts.{AreDistinct}
use Rattle.hierarchy.proofs.HeldTextsLemmas.{numbered, distinct}
use Rattle.hierarchy.proofs.interner.Interner.number.Goals as goal

pub returns-clause-number : goal.returns-clause-number
returns-clause-number c =
    let text = c.args.text.now in
    subst (λ ts. MatchOption c.get_index_of.result (¬ Contains ts text) (λ n. slice_get ts n ≡ Some text))
    c.self.view_is (numbered c.self.inside.texts.keys text c.get_index_of.result c.get_index_of.ensures.index
    c.get_index_of.ensures.found)

pub returns-clause-distinct : goal.returns-clause-distinct
returns-clause-distinct c =
    subst AreDistinct c.self.view_is (distinct c.self.inside.texts.keys c.len-distinct.ensures.unique)
