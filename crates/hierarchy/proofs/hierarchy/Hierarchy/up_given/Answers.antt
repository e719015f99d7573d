use Rattle.std.proofs.Common.{◌≤◌, length, subst, inl, inr}
use Rattle.std.proofs.lemmas.Bool.{cases_lt}
use Rattle.hierarchy.specs.steps.HierarchyTables.{wanted_in}
use Rattle.hierarchy.specs.steps.Reaches.{Nearest}
use Rattle.hierarchy.proofs.UpClassesLemmas.{found_along, built_in_along, no_class_along, no_class_declares}
use Rattle.hierarchy.proofs.UpClassesLemmas.{is_some_not_none}
use Rattle.hierarchy.specs.steps.Sought.{sought_name}
use Rattle.hierarchy.proofs.hierarchy.Hierarchy.up_given.Goals as goal

pub returns-in_default : goal.returns-in_default
returns-in_default c =
    let key = sought_name c.args.sought in
    let family = c.args.self.now.family in
    let past : length family ≤ c.args.class = elim (cases_lt c.args.class (length family)) [
      | inl small ↦ absurd (is_some_not_none c.top.result (c.top.ensures.none small) c.in_default.is)
      | inr large ↦ large
    ] in
    no_class_along family (wanted_in c.args.wanted family key) key c.args.class
    (no_class_declares family c.args.wanted key c.args.class past) past

pub returns-in-Some-nearest : goal.returns-in-Some-nearest
returns-in-Some-nearest c =
    let key = sought_name c.args.sought in
    let family = c.args.self.now.family in
    let own = wanted_in c.args.wanted family key in
    found_along family own key c.args.class c.in-Some-nearest.field-0
    (subst (Nearest family own c.args.class) c.in-Some-nearest.is (c.nearest.ensures key c.requires))

pub returns-in-None : goal.returns-in-None
returns-in-None c =
    let key = sought_name c.args.sought in
    let family = c.args.self.now.family in
    let own = wanted_in c.args.wanted family key in
    built_in_along family own key c.args.class c.in-Some.top c.built_in_method.result
    (subst (Nearest family own c.args.class) c.in-None.is (c.nearest.ensures key c.requires))
    (c.top.ensures.top c.in-Some.top c.in-Some.is)
    (c.built_in_method.ensures family own)
