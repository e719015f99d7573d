use Rattle.std.proofs.Common.{◌≡◌, Bool, true, false, not, refl, Option, subst}
use Rattle.std.proofs.Math.Bool.{beq}
use Rattle.hierarchy.specs.Hierarchies.{NumberedFamily}
use Rattle.hierarchy.specs.MemberNames.{named_in}
use Rattle.hierarchy.specs.Resolution.{ResolvesMethod}
use Rattle.hierarchy.specs.declared.member.Method.{Method}
use Rattle.program.specs.References.{FindsMethod}
use Rattle.program.proofs.resolver.Resolver.find_method.Goals as goal

differ : (a b : Bool) → not (beq a b) ≡ true → a ≡ b → ⊥
differ true true h same = absurd cc
differ true false h same = absurd cc
differ false true h same = absurd cc
differ false false h same = absurd cc

agree : (a b : Bool) → not (beq a b) ≡ false → a ≡ b
agree true true h = refl
agree true false h = absurd cc
agree false true h = absurd cc
agree false false h = refl

pub returns-in_default-clause-method : goal.returns-in_default-clause-method
returns-in_default-clause-method c = FindsMethod.unknown c.in_default.ensures

pub returns-then-is_interface-of_interface-clause-method : goal.returns-then-is_interface-of_interface-clause-method
returns-then-is_interface-of_interface-clause-method c =
    FindsMethod.incompatible c.in-Some.ensures
    (differ _ _
    (rw (c.is_interface.ensures, c.wants_interface-of_interface.ensures) at c.if-is_interface-of_interface.true))

pub returns-in-Some-found-clause-method : goal.returns-in-Some-found-clause-method
returns-in-Some-found-clause-method c =
    let family = c.args.self.now.hierarchy.now.family in
    FindsMethod.found c.in-Some.ensures
    (agree _ _
    (rw (c.is_interface.ensures, c.wants_interface-of_interface.ensures) at c.if-is_interface-of_interface.false))
    (subst (λ (r : Option Method). ResolvesMethod family (named_in family c.args.member) c.in-Some.class r)
    c.in-Some-found.is
    (subst (λ (n : NumberedFamily). ResolvesMethod n.family (named_in n.family c.args.member) c.in-Some.class
    c.in_ok-found.found) c.requires.members c.in_ok-found.ensures.method))

pub returns-in-None-clause-method : goal.returns-in-None-clause-method
returns-in-None-clause-method c =
    let family = c.args.self.now.hierarchy.now.family in
    FindsMethod.missing c.in-Some.ensures
    (agree _ _
    (rw (c.is_interface.ensures, c.wants_interface-of_interface.ensures) at c.if-is_interface-of_interface.false))
    (subst (λ (r : Option Method). ResolvesMethod family (named_in family c.args.member) c.in-Some.class r)
    c.in-None.is
    (subst (λ (n : NumberedFamily). ResolvesMethod n.family (named_in n.family c.args.member) c.in-Some.class
    c.in_ok-found.found) c.requires.members c.in_ok-found.ensures.method))
