use Rattle.std.proofs.Common.{◌≡◌, true, false, Option, Some, None, sym, ap, ◌∙◌, subst}
use Rattle.built_in.specs.Keys.{NameAndType}
use Rattle.hierarchy.specs.MemberLookup.{is_private, flags_in}
use Rattle.hierarchy.specs.Resolution.{Selects, SelectsByKey}
use Rattle.hierarchy.specs.declared.member.Method.{Method}
use Rattle.hierarchy.specs.declared.member.Method.TheVariants as method
use Rattle.hierarchy.proofs.hierarchy.Hierarchy.select_resolved.Goals as goal

pub returns-then-is_private : goal.returns-then-is_private
returns-then-is_private c =
    let m = method.Given c.in-Given.declaring c.in-Given.index in
    let private : is_private (flags_in c.args.self.now.family c.in-Given.declaring c.in-Given.index) ≡ true =
    ap is_private (sym c.flags.ensures) ∙ sym c.is_private.ensures ∙ c.if-is_private.true in
    subst (λ (x : Method). Selects c.args.self.now.family c.args.class x (Some m)) (sym c.in-Given.is)
    (Selects.itself private)

pub returns-in_err-member-in-Given : goal.returns-in_err-member-in-Given
returns-in_err-member-in-Given c =
    subst (λ (r : Option Method). Selects c.args.self.now.family c.args.class c.args.method r)
    (sym c.from_residual.ensures)
    (subst (λ (x : Method). Selects c.args.self.now.family c.args.class x None) (sym c.in-Given.is)
    (Selects.no_method (sym c.in_err-member-in-Given.ensures)))

pub returns-in-BuiltIn : goal.returns-in-BuiltIn
returns-in-BuiltIn c =
    subst (λ (x : Method). Selects c.args.self.now.family c.args.class x c.select_sought.result) (sym c.in-BuiltIn.is)
    (Selects.built_in
    (subst (λ (k : NameAndType). SelectsByKey c.args.self.now.family k c.args.class c.select_sought.result)
    c.sought_built_in.ensures.name
    c.select_sought.ensures))

pub returns-in_ok-member-in-Given : goal.returns-in_ok-member-in-Given
returns-in_ok-member-in-Given c =
    let family = c.args.self.now.family in
    let other : is_private (flags_in family c.in-Given.declaring c.in-Given.index) ≡ false =
    ap is_private (sym c.flags.ensures) ∙ sym c.is_private.ensures ∙ c.if-is_private.false in
    let chosen = c.select_sought-in-Given.result in
    subst (λ (x : Method). Selects family c.args.class x chosen) (sym c.in-Given.is)
    (Selects.given other (sym c.in_ok-member-in-Given.ensures)
    (subst (λ (k : NameAndType). SelectsByKey family k c.args.class chosen) c.sought.ensures.name
    c.select_sought-in-Given.ensures))
