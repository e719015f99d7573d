use Rattle.std.proofs.Common.{◌≡◌, ℕ, List, Option, Some, None, refl, sym, subst, ◌∙◌}
use Rattle.std.specs.List.{Contains}
use Rattle.std.proofs.lemmas.List.{take_all}
use Rattle.hierarchy.specs.Resolution.{instance_method_in}
use Rattle.built_in.specs.Keys.{NameAndType}
use Rattle.hierarchy.specs.steps.MemberKeys.{IsLookup}
use Rattle.hierarchy.specs.steps.Reaches.{classes_noted}
use Rattle.hierarchy.specs.declared.reach_table.Reach.{Reach}
use Rattle.hierarchy.proofs.SelectableLemmas.{none_more, none_of, declared_is}
use Rattle.hierarchy.proofs.hierarchy.Hierarchy.first_declared.Goals as goal

pub returns-in-Some : goal.returns-in-Some
returns-in-Some c = λ name lookup.
    let found = c.in-Some.member in
    (declared_is (instance_method_in c.args.self.now.family name) _ found.class found.index
    (sym (c.declared_at.ensures name lookup) ∙ c.in-Some.is)).1

pub loop-reach-preserved : goal.loop-reach-preserved
loop-reach-preserved c = λ name cl lookup among.
    none_more (instance_method_in c.args.self.now.family name) c.noted-reach-items.result.now c.loop-reach.reach-index
    c.loop-reach-test.true
    (sym (c.declared_at.ensures name lookup) ∙ none_of c.declared_at.result c.in_default.not-Some)
    (λ low before. c.loop-reach.invariant name low lookup before) cl among

pub returns : goal.returns
returns c = λ name lookup d. by name lookup d (instance_method_in c.args.self.now.family name d) refl
  where
    row : List Reach
    row = c.noted-reach-items.result.now

    by : (name : NameAndType) → IsLookup c.args.self.now.texts name c.args.key → (d : ℕ) (v : Option ℕ)
        → instance_method_in c.args.self.now.family name d ≡ v
        → instance_method_in c.args.self.now.family name d ≡ None
    by name lookup d None e = e
    by name lookup d (Some k) e = c.loop-reach.invariant name d lookup
        (subst (λ (l : List Reach). Contains (classes_noted l) d)
        (sym (take_all c.loop-reach.reach-index row c.loop-reach-test.false))
        (c.noted-reach-items.ensures name d k lookup e))
