use Rattle.std.proofs.Common.{◌≡◌, sym, subst, ◌∙◌, ap, true, false}
use Rattle.loading.specs.Families.{IsFamily}
use Rattle.hierarchy.specs.MemberLookup.{is_abstract, flags_in}
use Rattle.hierarchy.specs.steps.Defaults.{classes_of}
use Rattle.hierarchy.proofs.DefaultsLemmas.{none_is_default, only_is_default, only_is_abstract, when_all_seen}
use Rattle.hierarchy.proofs.hierarchy.Hierarchy.default_among.Goals as goal

pub returns-in-Nothing : goal.returns-in-Nothing
returns-in-Nothing c = λ name is.
    none_is_default c.args.self.now.family name c.args.class (classes_of c.args.above) c.requires
    (c.in-Nothing.ensures name is)

pub returns-then-is_abstract : goal.returns-then-is_abstract
returns-then-is_abstract c = λ name is.
    let family = c.args.self.now.family in
    let abstract : is_abstract (flags_in family c.in-One.interface c.in-One.index) ≡ true =
    ap is_abstract (sym c.flags.ensures) ∙ sym c.is_abstract.ensures ∙ c.if-is_abstract.true in
    only_is_abstract family name c.args.class (classes_of c.args.above) c.requires c.in-One.interface c.in-One.index
    abstract (c.in-One.ensures name is)

pub returns-else-is_abstract : goal.returns-else-is_abstract
returns-else-is_abstract c = λ name is.
    let family = c.args.self.now.family in
    let code : is_abstract (flags_in family c.in-One.interface c.in-One.index) ≡ false =
    ap is_abstract (sym c.flags.ensures) ∙ sym c.is_abstract.ensures ∙ c.if-is_abstract.false in
    only_is_default family name c.args.class (classes_of c.args.above) c.requires c.in-One.interface c.in-One.index
    (subst IsFamily c.family.ensures c.classes-classes.ensures.fits) code (c.in-One.ensures name is)

pub returns-in-Several : goal.returns-in-Several
returns-in-Several c = λ name is.
    let all = c.all_defaults.ensures name is in
    rw c.only.ensures (when_all_seen c.args.self.now.family name c.args.class (classes_of c.args.above) c.requires
    all.0 all.1 c.all_defaults.result all.2)
