use Rattle.std.proofs.Common.{None, Some, ◌∙◌, subst}
use Rattle.loading.specs.Families.{Family, IsFamily, AreParentsWithin}
use Rattle.hierarchy.specs.Selection.{is_instance_method}
use Rattle.hierarchy.specs.declared.member.Method.TheVariants as method
use Rattle.hierarchy.specs.steps.Sought.{sought_name}
use Rattle.hierarchy.proofs.SelectionLemmas.{found_up, found_above}
use Rattle.hierarchy.proofs.TheDefaultLemmas.{the_default_is, no_default_is}
use Rattle.hierarchy.proofs.hierarchy.Hierarchy.special_in_class.Goals as goal

pub returns-in-Some : goal.returns-in-Some
returns-in-Some c =
    let family = c.args.self.now.family in
    let fits = subst IsFamily c.family.ensures c.classes-classes.ensures.fits in
    let within = subst (λ (f : Family). AreParentsWithin f) c.family.ensures c.classes-classes.ensures.within in
    found_up family fits within is_instance_method (sought_name c.args.sought) c.args.class c.in-Some.method
    c.in-Some.ensures

pub returns-in_err-class : goal.returns-in_err-class
returns-in_err-class c =
    let family = c.args.self.now.family in
    let key = sought_name c.args.sought in
    let fits = subst IsFamily c.family.ensures c.classes-classes.ensures.fits in
    let within = subst (λ (f : Family). AreParentsWithin f) c.family.ensures c.classes-classes.ensures.within in
    c.from_residual.ensures
    ∙ found_above family fits within is_instance_method key c.args.class None c.in_default.ensures
    (no_default_is family key c.args.class fits within (c.in_err-class.ensures key c.requires))

pub returns : goal.returns
returns c =
    let family = c.args.self.now.family in
    let key = sought_name c.args.sought in
    let fits = subst IsFamily c.family.ensures c.classes-classes.ensures.fits in
    let within = subst (λ (f : Family). AreParentsWithin f) c.family.ensures c.classes-classes.ensures.within in
    found_above family fits within is_instance_method key c.args.class
    (Some (method.Given c.in_ok-class.field-0.class c.in_ok-class.field-0.index)) c.in_default.ensures
    (the_default_is family key c.args.class fits within c.in_ok-class.field-0.class c.in_ok-class.field-0.index
    (c.in_ok-class.ensures key c.requires))
