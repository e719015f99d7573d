use Rattle.std.proofs.Common.{◌∙◌, [], ap}
use Rattle.indexmap.specs.IndexSet.{insert_all}
use Rattle.hierarchy.specs.steps.HeldTexts.{texts_of}
use Rattle.hierarchy.proofs.HeldTextsLemmas.{alike, distinct, all_inserted}
use Rattle.hierarchy.proofs.interner.Interner.rehash.Goals as goal

pub returns : goal.returns
returns c =
    let old = c.self.inside.texts.keys in
    ap texts_of (c.in_ok-append.ensures.keys ∙ ap (λ keys. insert_all alike keys old) c.with_hasher-texts.ensures.empty
    ∙ all_inserted [] old (distinct old c.len-distinct.ensures.unique)) ∙ c.self.view_is
