use Rattle.std.proofs.Common.{sym, ◌∙◌}
use Rattle.loading.specs.steps.Linking.{none_named, unknown_class, not_extended, not_below_object}
use Rattle.loading.proofs.LinkingInterfaceLemmas.{no_superclass, some_superclass}
use Rattle.loading.proofs.parents.superclass_of.Goals as goal

pub returns-then-index-eq0 : goal.returns-then-index-eq0
returns-then-index-eq0 c =
    none_named (no_superclass c.args.file.now (sym c.super_class-index.ensures ∙ c.if-index-eq0.true))

pub returns-in_default : goal.returns-in_default
returns-in_default c =
    let name =
    some_superclass c.args.file.now _ _ c.super_class-index.ensures c.if-index-eq0.false
    c.class_name_at.ensures.value in
    unknown_class name c.in_default.ensures

pub returns-then-not-may_be_extended : goal.returns-then-not-may_be_extended
returns-then-not-may_be_extended c =
    let name =
    some_superclass c.args.file.now _ _ c.super_class-index.ensures c.if-index-eq0.false
    c.class_name_at.ensures.value in
    not_extended c.in-Some.class _ name c.in-Some.ensures
    (sym c.may_be_extended.ensures ∙ c.if-not-may_be_extended.true)

pub returns-then-not-is_object : goal.returns-then-not-is_object
returns-then-not-is_object c =
    let name =
    some_superclass c.args.file.now _ _ c.super_class-index.ensures c.if-index-eq0.false
    c.class_name_at.ensures.value in
    not_below_object c.in-Some.class _ name c.in-Some.ensures
    (sym c.may_be_extended.ensures ∙ c.if-not-may_be_extended.false)
    (sym c.is_interface.ensures ∙ c.if-is_interface.true)
    (sym c.is_object.ensures ∙ c.if-not-is_object.true)
