use Rattle.std.proofs.Common.{◌≡◌, List, Option, [], refl, sym, subst, inl, inr}
use Rattle.std.specs.List.{Contains}
use Rattle.std.proofs.lemmas.List.Elements.{Contains-push, Contains-push_cases}
use Rattle.hierarchy.specs.steps.Declarations.{Grows, IsListed}
use Rattle.hierarchy.specs.steps.Reaches.{class_noted}
use Rattle.hierarchy.specs.declared.declarations.Declaration.{Declaration}
use Rattle.hierarchy.specs.declared.member.DeclaredMember.{DeclaredMember}
use Rattle.hierarchy.proofs.DeclarationsLemmas.{goes_one}
use Rattle.hierarchy.proofs.AscentsOrderLemmas.{none_in_empty}
use Rattle.hierarchy.proofs.hierarchy.Hierarchy.add_noted.Goals as goal

pub returns-clause-goes : goal.returns-clause-goes
returns-clause-goes c =
    let h = c.args.self.now in
    let old : List Declaration = c.args.declared.now.items in
    let e : Declaration =
    record {
      key = c.args.key;
      member = record { class = c.in-Some.member.class; index = c.in-Some-find.index };
      coded = c.has_code.result;
    } in
    subst (Grows h c.args.wanted c.args.key old) (sym c.in_ok-push.ensures.items)
    (goes_one h c.args.wanted c.args.key old e refl c.requires
    (record {
      there = λ name numbers. sym (c.in-Some-find.ensures name numbers);
      code = c.has_code.ensures;
    }))

pub returns-clause-there : goal.returns-clause-there
returns-clause-there c = λ name class k numbers has among.
    let old : List Declaration = c.args.declared.now.items in
    let e : Declaration =
    record {
      key = c.args.key;
      member = record { class = c.in-Some.member.class; index = c.in-Some-find.index };
      coded = c.has_code.result;
    } in
    let same : c.in-Some.member.class ≡ class =
    elim (Contains-push_cases [] c.in-Some.member.class class
    (subst (λ (o : Option DeclaredMember). Contains (class_noted o) class) c.in-Some.is among)) [
      | inl none ↦ absurd (none_in_empty class none)
      | inr is ↦ is
    ] in
    subst (λ (l : List Declaration). IsListed l c.args.key class) (sym c.in_ok-push.ensures.items)
    (e, Contains-push old e, refl, same)
