use Rattle.std.proofs.Common.{◌≡◌, ℕ, List, map, take, get_or, sym, subst, ◌∙◌, arith}
use Rattle.std.specs.List.{Contains}
use Rattle.loading.specs.Families.{parents_in}
use Rattle.hierarchy.specs.declared.parents_first.ClassWithParents.{ClassWithParents}
use Rattle.hierarchy.specs.steps.DeclarationBits.{AreKnown}
use Rattle.hierarchy.specs.steps.ParentSteps.{AreSteps, HasParents, class_of_step}
use Rattle.hierarchy.proofs.AmongLemmas.{step_within, step_after, step_next, all_done}
use Rattle.hierarchy.proofs.KnownLemmas.{known_all}
use Rattle.hierarchy.proofs.ways.fill.Goals as goal

pub fill_class-requires : goal.fill_class-requires
fill_class-requires c =
    let steps = c.as_slice-steps.result.now in
    let parents = c.args.order.now.parents.items in
    let are : AreSteps c.args.family.now steps parents =
    subst (λ (s : List ClassWithParents). AreSteps c.args.family.now s parents) (sym c.as_slice-steps.ensures.value)
    c.requires.order in
    omega (
      arith,
      c.loop-step.invariant.len,
      step_within c.args.family.now steps parents are c.loop-step.step-index c.loop-step-test.true,
    )

pub bounds-own-step : goal.bounds-own-step
bounds-own-step c =
    let steps = c.as_slice-steps.result.now in
    let parents = c.args.order.now.parents.items in
    let are : AreSteps c.args.family.now steps parents =
    subst (λ (s : List ClassWithParents). AreSteps c.args.family.now s parents) (sym c.as_slice-steps.ensures.value)
    c.requires.order in
    omega (
      arith,
      c.requires.owns,
      step_within c.args.family.now steps parents are c.loop-step.step-index c.loop-step-test.true,
    )

pub loop-step-init : goal.loop-step-init
loop-step-init c = record {
  len = c.requires.len;
  filled = λ declares d k n small there mine. known_all c.args.family.now declares d k n c.args.rows.now;
}

pub loop-step-preserved : goal.loop-step-preserved
loop-step-preserved c =
    let family = c.args.family.now in
    let steps = c.as_slice-steps.result.now in
    let parents = c.args.order.now.parents.items in
    let i = c.loop-step.step-index in
    let are : AreSteps family steps parents =
    subst (λ (s : List ClassWithParents). AreSteps family s parents) (sym c.as_slice-steps.ensures.value)
    c.requires.order in
    let small = c.loop-step-test.true in
    let known : HasParents family parents (get_or steps i (record { class = 0; from = 0; to = 0 })) =
    are.known i (record { class = 0; from = 0; to = 0 }) small in
    let same : c.parents_of.result.now
    ≡ parents_in family (get_or steps i (record { class = 0; from = 0; to = 0 })).class =
    c.parents_of.ensures ∙ known.are in
    record {
      len = c.fill_class.ensures.len ∙ c.loop-step.invariant.len;
      filled = λ declares d k n fits there mine.
          subst (λ (l : List ℕ). AreKnown family declares d k n l c.fill_class.new.rows)
          (step_next family steps parents are i small)
          (c.fill_class.ensures.filled family declares (map class_of_step (take i steps)) d k n fits there
          (mine (get_or steps i (record { class = 0; from = 0; to = 0 })).class
          (step_within family steps parents are i small)) same
          (λ p has. step_after family steps parents are i small p (subst (λ (l : List ℕ). Contains l p) same has))
          (c.loop-step.invariant.filled declares d k n fits there mine));
    }

pub returns-clause-filled : goal.returns-clause-filled
returns-clause-filled c = λ declares d k n class fits there mine small.
    let steps = c.as_slice-steps.result.now in
    let parents = c.args.order.now.parents.items in
    let are : AreSteps c.args.family.now steps parents =
    subst (λ (s : List ClassWithParents). AreSteps c.args.family.now s parents) (sym c.as_slice-steps.ensures.value)
    c.requires.order in
    (c.loop-step.invariant.filled declares d k n fits there mine class
    (all_done c.args.family.now steps parents are c.loop-step.step-index class c.loop-step-test.false small)).1
