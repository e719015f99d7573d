use Rattle.std.proofs.Common.{Option, subst}
use Rattle.hierarchy.specs.Hierarchies.{NumberedFamily}
use Rattle.hierarchy.specs.MemberNames.{named_in}
use Rattle.hierarchy.specs.Resolution.{ResolvesField}
use Rattle.hierarchy.specs.declared.member.Field.{Field}
use Rattle.program.specs.References.{FindsField}
use Rattle.program.proofs.resolver.Resolver.find_field.Goals as goal

pub returns-in_default-clause-field : goal.returns-in_default-clause-field
returns-in_default-clause-field c = FindsField.unknown c.in_default.ensures

pub returns-in-Some-found-clause-field : goal.returns-in-Some-found-clause-field
returns-in-Some-found-clause-field c =
    let family = c.args.self.now.hierarchy.now.family in
    FindsField.found c.in-Some.ensures
    (subst (λ (r : Option Field). ResolvesField family (named_in family c.args.member) c.in-Some.class r)
    c.in-Some-found.is
    (subst (λ (n : NumberedFamily). ResolvesField n.family (named_in n.family c.args.member) c.in-Some.class
    c.in_ok-found.found) c.requires.members c.in_ok-found.ensures.field))

pub returns-in-None-clause-field : goal.returns-in-None-clause-field
returns-in-None-clause-field c =
    let family = c.args.self.now.hierarchy.now.family in
    FindsField.missing c.in-Some.ensures
    (subst (λ (r : Option Field). ResolvesField family (named_in family c.args.member) c.in-Some.class r)
    c.in-None.is
    (subst (λ (n : NumberedFamily). ResolvesField n.family (named_in n.family c.args.member) c.in-Some.class
    c.in_ok-found.found) c.requires.members c.in_ok-found.ensures.field))
