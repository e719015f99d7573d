use Rattle.std.proofs.Common.{◌≡◌, Some, None, sym, ap, ◌∙◌, subst}
use Rattle.loading.specs.Families.{superclass_in}
use Rattle.loading.specs.declared.given.Superclass.TheVariants as super
use Rattle.hierarchy.specs.steps.Tops.{IsTop, direct, further}
use Rattle.hierarchy.proofs.TopsLemmas.{has_superclass}
use Rattle.hierarchy.proofs.tops.top_of.Goals as goal

pub returns-in-Some-BuiltIn : goal.returns-in-Some-BuiltIn
returns-in-Some-BuiltIn c = λ above.
    direct (sym c.superclass.ensures.value ∙ c.in-Some-BuiltIn.is ∙ ap Some c.in-Some-BuiltIn.field-0-is)

pub returns-in-Some : goal.returns-in-Some
returns-in-Some c = λ above.
    let is : superclass_in c.args.family.now c.args.class ≡ Some (super.Given c.in-Some-Given.above) =
    sym c.superclass.ensures.value ∙ c.in-Some-Given.is ∙ ap Some c.in-Some-Given.field-0-is in
    let up = above c.in-Some-Given.above is in
    let both : Some up.0 ≡ Some c.in-Some.top = sym up.1 ∙ sym c.top_in.ensures ∙ c.in-Some.is in
    let top : up.0 ≡ c.in-Some.top = cc in
    further is (subst (IsTop c.args.family.now c.in-Some-Given.above) top up.2)

pub returns-in-None-top_in : goal.returns-in-None-top_in
returns-in-None-top_in c = λ above.
    let is : superclass_in c.args.family.now c.args.class ≡ Some (super.Given c.in-Some-Given.above) =
    sym c.superclass.ensures.value ∙ c.in-Some-Given.is ∙ ap Some c.in-Some-Given.field-0-is in
    let up = above c.in-Some-Given.above is in
    let clash : None ≡ Some up.0 = sym c.in-None-top_in.is ∙ c.top_in.ensures ∙ up.1 in absurd cc

pub returns-in-None : goal.returns-in-None
returns-in-None c = λ above.
    absurd (has_superclass c.args.family.now c.args.class c.requires (sym c.superclass.ensures.value ∙ c.in-None.is))
