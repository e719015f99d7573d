use Rattle.std.proofs.Common.{ℕ, List, Option, take, subst}
use Rattle.std.proofs.lemmas.List.{take_all}
use Rattle.hierarchy.specs.steps.Ancestors.{IsFirst}
use Rattle.hierarchy.specs.steps.HierarchyTables.{wanted_in}
use Rattle.hierarchy.specs.steps.Reaches.{classes_noted}
use Rattle.hierarchy.specs.declared.ancestors.PlacedMember.{PlacedMember}
use Rattle.hierarchy.specs.declared.reach_table.Reach.{Reach}
use Rattle.hierarchy.proofs.FirstAboveLemmas.{first_of_none, first_is, none_is_first}
use Rattle.hierarchy.proofs.NotedLemmas.{noted_next}
use Rattle.hierarchy.proofs.hierarchy.Hierarchy.first_among.Goals as goal

pub loop-reach-init : goal.loop-reach-init
loop-reach-init c = λ name is once.
    first_of_none (wanted_in c.args.wanted c.args.self.now.family name) c.args.ancestors.now.items

pub loop-reach-preserved : goal.loop-reach-preserved
loop-reach-preserved c = λ name is once.
    let own : ℕ → Option ℕ = wanted_in c.args.wanted c.args.self.now.family name in
    let row : List Reach = c.noted-row.result.now in
    let seen = classes_noted (take c.loop-reach.reach-index row) in
    subst (λ (l : List ℕ). IsFirst own c.args.ancestors.now.items l c.nearer-first.result)
    (noted_next row c.loop-reach.reach-index c.loop-reach-test.true)
    (c.nearer-first.ensures name seen is once (c.loop-reach.invariant name is once))

pub returns-in-Some : goal.returns-in-Some
returns-in-Some c = λ name is once.
    let own : ℕ → Option ℕ = wanted_in c.args.wanted c.args.self.now.family name in
    let items : List ℕ = c.args.ancestors.now.items in
    let row : List Reach = c.noted-row.result.now in
    first_is own items (classes_noted row) (λ i k has. c.noted-row.ensures name i k is has) c.in-Some.standing
    (subst (λ (o : Option PlacedMember). IsFirst own items (classes_noted row) o) c.in-Some.is
    (subst (λ (l : List Reach). IsFirst own items (classes_noted l) c.loop-reach.first)
    (take_all c.loop-reach.reach-index row c.loop-reach-test.false) (c.loop-reach.invariant name is once)))

pub returns-in-None : goal.returns-in-None
returns-in-None c = λ name is once.
    let own : ℕ → Option ℕ = wanted_in c.args.wanted c.args.self.now.family name in
    let items : List ℕ = c.args.ancestors.now.items in
    let row : List Reach = c.noted-row.result.now in
    none_is_first own items (classes_noted row) (λ i k has. c.noted-row.ensures name i k is has)
    (subst (λ (o : Option PlacedMember). IsFirst own items (classes_noted row) o) c.in-None.is
    (subst (λ (l : List Reach). IsFirst own items (classes_noted l) c.loop-reach.first)
    (take_all c.loop-reach.reach-index row c.loop-reach-test.false) (c.loop-reach.invariant name is once)))
