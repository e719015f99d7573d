use Rattle.std.proofs.Common.{rules}
use Rattle.std.specs.Cmp.Lexicographic.{slice_cmp}
use Rattle.std.specs.Ordering.{nat_cmp}
use Rattle.std.proofs.lemmas.Fn.{always_returns_same}
use Rattle.loading.proofs.FamiliesLemmas.{class_name, found_class, no_class}
use Rattle.loading.proofs.family.Family.number_of.Goals as goal

pub returns-in-Ok : goal.returns-in-Ok
returns-in-Ok c =
    let at = c.in-Ok.ensures.position (λ x. slice_cmp nat_cmp (class_name x) c.args.name.now)
    (always_returns_same _ _ _ (λ a r g h. search rules)) in
    rw (← c.classes-classes.ensures.value)
    (found_class c.classes-classes.result.now c.args.name.now c.in-Ok.number c.in-Ok.ensures.bound at)

pub returns-in-Err : goal.returns-in-Err
returns-in-Err c =
    let split = c.in-Err.ensures.position (λ x. slice_cmp nat_cmp (class_name x) c.args.name.now)
    (always_returns_same _ _ _ (λ a r g h. search rules)) in
    rw (← c.classes-classes.ensures.value) (no_class c.classes-classes.result.now c.args.name.now c.in-Err.field-0
    (rw c.classes-classes.ensures.value c.classes-classes.ensures.fits) split)
