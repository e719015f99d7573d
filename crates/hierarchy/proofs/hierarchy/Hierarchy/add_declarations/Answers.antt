use Rattle.std.proofs.Common.{ℕ, List, take, sym, subst, inl, inr}
use Rattle.std.specs.List.{Contains}
use Rattle.std.proofs.lemmas.List.{take_all}
use Rattle.std.proofs.lemmas.List.Elements.{Contains-append_cases}
use Rattle.hierarchy.specs.steps.Reaches.{classes_noted}
use Rattle.hierarchy.specs.declared.reach_table.Reach.{Reach}
use Rattle.hierarchy.proofs.DeclarationsLemmas.{goes_on, listed_still}
use Rattle.hierarchy.proofs.NotedLemmas.{noted_next}
use Rattle.hierarchy.proofs.hierarchy.Hierarchy.add_declarations.Goals as goal

pub loop-reach-preserved : goal.loop-reach-preserved
loop-reach-preserved c =
    let h = c.args.self.now in
    let row : List Reach = c.noted-row.result.now in
    let before = c.loop-reach.declared.items in
    let after = c.add_noted.new.declared.items in
    let goes = c.in_ok-add_noted.ensures.goes in
    record {
      goes = goes_on h c.args.wanted c.args.key c.args.declared.now.items before after c.loop-reach.invariant.goes goes;
      there = λ name class k numbers has among.
          elim (Contains-append_cases (classes_noted (take c.loop-reach.reach-index row)) _ class
          (subst (λ (l : List ℕ). Contains l class)
          (sym (noted_next row c.loop-reach.reach-index c.loop-reach-test.true)) among)) [
            | inl low ↦ listed_still h c.args.wanted c.args.key before after class goes
                c.args.key (c.loop-reach.invariant.there name class k numbers has low)
            | inr last ↦ c.in_ok-add_noted.ensures.there name class k numbers has last
          ];
    }

pub returns-clause-whole : goal.returns-clause-whole
returns-clause-whole c = λ name class k numbers has.
    let row : List Reach = c.noted-row.result.now in
    c.loop-reach.invariant.there name class k numbers has
    (subst (λ (l : List Reach). Contains (classes_noted l) class)
    (sym (take_all c.loop-reach.reach-index row c.loop-reach-test.false))
    (c.noted-row.ensures name class k numbers has))
