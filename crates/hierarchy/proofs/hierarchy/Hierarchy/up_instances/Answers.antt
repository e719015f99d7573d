use Rattle.std.proofs.Common.{sym, ◌∙◌, subst}
use Rattle.loading.specs.Families.{IsFamily}
use Rattle.hierarchy.specs.steps.Sought.{sought_name}
use Rattle.hierarchy.proofs.SpecialsLemmas.{is_first_instance, past_static, falls_past}
use Rattle.hierarchy.proofs.hierarchy.Hierarchy.up_instances.Goals as goal

pub loop-above-init : goal.loop-above-init
loop-above-init c = λ r found. found

pub returns-in_default : goal.returns-in_default
returns-in_default c =
    c.loop-above.invariant c.up_classes-found.result
    (is_first_instance c.args.self.now.family (sought_name c.args.sought) c.up_classes-found.ensures
    (sym c.above_static.ensures ∙ c.in_default.is))

pub loop-above-smaller : goal.loop-above-smaller
loop-above-smaller c =
    falls_past c.args.self.now.family (sought_name c.args.sought) c.in-Some.above
    (subst IsFamily c.family.ensures c.classes-classes.ensures.fits) c.up_classes-found.ensures
    (sym c.above_static.ensures ∙ c.in-Some.is)

pub loop-above-preserved : goal.loop-above-preserved
loop-above-preserved c = λ r found.
    c.loop-above.invariant r
    (past_static c.args.self.now.family (sought_name c.args.sought) c.in-Some.above r c.up_classes-found.ensures
    (sym c.above_static.ensures ∙ c.in-Some.is) found)
