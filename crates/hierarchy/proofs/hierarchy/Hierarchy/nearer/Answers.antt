use Rattle.std.proofs.Common.{ℕ, Option, List, Some, ◌++◌, sym, subst}
use Rattle.hierarchy.specs.steps.Ancestors.{IsFirst}
use Rattle.hierarchy.specs.steps.HierarchyTables.{wanted_in}
use Rattle.hierarchy.specs.steps.Reaches.{class_noted}
use Rattle.hierarchy.specs.declared.ancestors.PlacedMember.{PlacedMember}
use Rattle.hierarchy.specs.declared.member.DeclaredMember.{DeclaredMember}
use Rattle.hierarchy.proofs.FirstAboveLemmas.{first_without, first_lacking, first_before, first_moves}
use Rattle.hierarchy.proofs.hierarchy.Hierarchy.nearer.Goals as goal

pub returns-in_default-place : goal.returns-in_default-place
returns-in_default-place c = λ name asked is once are.
    let own : ℕ → Option ℕ = wanted_in c.args.wanted c.args.self.now.family name in
    let items : List ℕ = c.args.ancestors.now.items in
    subst (λ (o : Option DeclaredMember). IsFirst own items (asked ++ class_noted o) c.args.first) (sym c.in-Some.is)
    (first_without own items asked c.args.first are c.in-Some.member.class c.in_default-place.ensures)

pub returns-then-stands_before : goal.returns-then-stands_before
returns-then-stands_before c = λ name asked is once are.
    let own : ℕ → Option ℕ = wanted_in c.args.wanted c.args.self.now.family name in
    let items : List ℕ = c.args.ancestors.now.items in
    subst (λ (o : Option DeclaredMember). IsFirst own items (asked ++ class_noted o) c.args.first) (sym c.in-Some.is)
    (first_before own items asked c.args.first are c.in-Some.member.class c.in-Some-place.place once
    c.in-Some-place.ensures c.if-stands_before.ensures)

pub returns-in-Some-find : goal.returns-in-Some-find
returns-in-Some-find c = λ name asked is once are.
    let own : ℕ → Option ℕ = wanted_in c.args.wanted c.args.self.now.family name in
    let items : List ℕ = c.args.ancestors.now.items in
    let found : PlacedMember =
    record {
      place = c.in-Some-place.place;
      member = record { class = c.in-Some.member.class; index = c.in-Some-find.index };
    } in
    subst (λ (o : Option DeclaredMember). IsFirst own items (asked ++ class_noted o) (Some found)) (sym c.in-Some.is)
    (first_moves own items asked c.args.first are c.in-Some.member.class c.in-Some-find.index c.in-Some-place.place once
    c.in-Some-place.ensures (sym (c.in-Some-find.ensures name is)) c.if-stands_before.ensures)

pub returns-in-None : goal.returns-in-None
returns-in-None c = λ name asked is once are.
    let own : ℕ → Option ℕ = wanted_in c.args.wanted c.args.self.now.family name in
    let items : List ℕ = c.args.ancestors.now.items in
    subst (λ (o : Option DeclaredMember). IsFirst own items (asked ++ class_noted o) c.args.first) (sym c.in-Some.is)
    (first_lacking own items asked c.args.first are c.in-Some.member.class (sym (c.in-None.ensures name is)))
