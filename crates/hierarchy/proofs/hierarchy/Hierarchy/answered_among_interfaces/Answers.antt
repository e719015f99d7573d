use Rattle.std.proofs.Common.{◌≡◌, Option, Some, None, ◌∷◌, [], MatchOption, refl, sym, ap, subst, ◌∙◌}
use Rattle.hierarchy.specs.MemberLookup.{interface_method_in, IsTheDefault, HasNoDefault}
use Rattle.hierarchy.specs.Resolution.{AmongInterfaces}
use Rattle.hierarchy.specs.steps.FoundAhead.{given_method}
use Rattle.hierarchy.specs.declared.member.DeclaredMember.{DeclaredMember}
use Rattle.hierarchy.proofs.AnswersLemmas.{search_by, answered_by}
use Rattle.hierarchy.proofs.DefaultsLemmas.{none_by}
use Rattle.hierarchy.proofs.hierarchy.Hierarchy.answered_among_interfaces.Goals as goal

pub returns-in-Some : goal.returns-in-Some
returns-in-Some c = λ name m is are e.
    let family = c.args.self.now.family in
    let class = c.args.answer.now.class in
    let lacks : interface_method_in family name class ≡ None =
    sym (c.find.ensures name is) ∙ none_by c.find.result (sym c.is_some.ensures ∙ c.if-is_some.false) in
    let some : Some c.in-Some.default ≡ m = cc in
    subst (λ (x : Option DeclaredMember). AmongInterfaces family name class (given_method x)) some
    (AmongInterfaces.the_default
    (subst (λ (o : Option DeclaredMember). MatchOption o (HasNoDefault family name class)
    (λ x. IsTheDefault family name class x.class x.index)) (sym c.only.ensures ∙ c.in-Some.is)
    (are.defaults refl lacks)))

pub returns-in-None : goal.returns-in-None
returns-in-None c = λ name m is are e.
    let family = c.args.self.now.family in
    let class = c.args.answer.now.class in
    let lacks : interface_method_in family name class ≡ None =
    sym (c.find.ensures name is) ∙ none_by c.find.result (sym c.is_some.ensures ∙ c.if-is_some.false) in
    let none : HasNoDefault family name class =
    subst (λ (o : Option DeclaredMember). MatchOption o (HasNoDefault family name class)
    (λ x. IsTheDefault family name class x.class x.index)) (sym c.only.ensures ∙ c.in-None.is)
    (are.defaults refl lacks) in
    answered_by family name class m none (search_by family (interface_method_in family name) (class ∷ []) m
    (λ x some. are.first x (c.found.ensures.some x (e ∙ ap Some some)))
    (λ nothing. are.none (c.found.ensures.none (e ∙ ap Some nothing))))
