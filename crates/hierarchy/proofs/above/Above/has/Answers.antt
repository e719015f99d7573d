use Rattle.std.proofs.Common.{◌↔◌, IsTrue, sym, subst}
use Rattle.std.specs.List.{Contains}
use Rattle.hierarchy.specs.steps.Defaults.{classes_of}
use Rattle.hierarchy.specs.declared.above.Above.{Above}
use Rattle.hierarchy.proofs.AncestorsLemmas.{has_by_place}
use Rattle.hierarchy.proofs.above.Above.has.Goals as goal

pub returns-in-Walked : goal.returns-in-Walked
returns-in-Walked c =
    subst (λ (a : Above). IsTrue c.is_some.result ↔ Contains (classes_of a) c.args.class) (sym c.in-Walked.is)
    (has_by_place c.in-Walked.ancestors.now.items c.args.class c.place.result c.is_some.result c.is_some.ensures
    c.place.ensures)
