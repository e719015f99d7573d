use Rattle.std.proofs.Common.{Option, [], ◌∷◌, subst}
use Rattle.hierarchy.specs.MemberLookup.{field_in}
use Rattle.hierarchy.specs.Resolution.{found, missing}
use Rattle.hierarchy.specs.Search.{Search}
use Rattle.hierarchy.specs.declared.member.DeclaredMember.{DeclaredMember}
use Rattle.hierarchy.proofs.hierarchy.Hierarchy.given_field.Goals as goal

pub returns-in-Some-clause-field : goal.returns-in-Some-clause-field
returns-in-Some-clause-field c = λ name is.
    let family = c.args.self.now.family in
    found (subst (λ (r : Option DeclaredMember). Search family (field_in family name) (c.args.class ∷ []) r)
    c.in-Some.is (c.in_ok-first.ensures.found name is))

pub returns-in-None-clause-field : goal.returns-in-None-clause-field
returns-in-None-clause-field c = λ name is.
    let family = c.args.self.now.family in
    missing (subst (λ (r : Option DeclaredMember). Search family (field_in family name) (c.args.class ∷ []) r)
    c.in-None.is (c.in_ok-first.ensures.found name is))
