use Rattle.std.proofs.Common.{◌≡◌, ◌<◌, ℕ, Option, Some, [], ◌∷◌, sym, ◌∙◌, subst, inl, inr, refl, true, false}
use Rattle.loading.specs.Families.{superclasses_in}
use Rattle.hierarchy.specs.steps.Reaches.{NearestFrom}
use Rattle.hierarchy.specs.steps.Sweeps.{own_in}
use Rattle.hierarchy.proofs.SweepsLemmas.{below_first, below_next, falls_up, passes_up, above_from_list}
use Rattle.hierarchy.proofs.SweepsLemmas.{left_at_end, only_one, height_from}
use Rattle.hierarchy.proofs.sweep.Sweep.leave.Goals as goal

pub loop-at-init : goal.loop-at-init
loop-at-init c = record {
  notes = record { comes = c.requires.behind.comes; keeps = λ k ends. ends };
  stands = below_first c.args.self.now.family.now c.args.before c.args.class c.requires.behind.may;
  left = λ name. inr (λ r near. near);
}

pub returns-in_default-clause-left : goal.returns-in_default-clause-left
returns-in_default-clause-left c = λ name.
    let s = c.args.self.now in
    elim (c.loop-at.invariant.left name) [
      | inl noted ↦ inl noted
      | inr pass ↦ inr (λ r near. left_at_end s.family.now (own_in s name) c.args.class c.loop-at.at r
          c.in_default.is c.loop-at.invariant.stands (pass r near))
    ]

pub returns-then-is_class-clause-left : goal.returns-then-is_class-clause-left
returns-then-is_class-clause-left c = λ name.
    let s = c.args.self.now in
    let own = own_in s name in
    let to : c.given_superclass-to.result ≡ Some c.in-Some.left = c.if-is_class.ensures.0 refl in
    elim (c.loop-at.invariant.left name) [
      | inl noted ↦ inl noted
      | inr pass ↦ inr (λ r near. above_from_list s.family.now own c.args.class r c.given_superclass-to.result
          c.given_superclass-to.ensures.value
          (subst (λ (o : Option ℕ). NearestFrom s.family.now own o r) (c.in-Some.is ∙ sym to) (pass r near)))
    ]

pub note_class-requires-clause-own : goal.note_class-requires-clause-own
note_class-requires-clause-own c = inr (λ name. elim (c.requires.own name) [
  | inl noted ↦ inl (λ q are. c.loop-at.invariant.notes.keeps q (noted q are))
  | inr none ↦ inr none
])

pub loop-at-smaller : goal.loop-at-smaller
loop-at-smaller c =
    let family = c.args.self.now.family.now in
    subst (λ (o : Option ℕ). height_from family c.given_superclass-at.result < height_from family o) (sym c.in-Some.is)
    (falls_up family c.in-Some.left c.given_superclass-at.result c.requires.behind.family
    c.given_superclass-at.ensures.value)

pub loop-at-preserved : goal.loop-at-preserved
loop-at-preserved c =
    let s = c.args.self.now in
    let family = s.family.now in
    let before = c.loop-at.invariant in
    let e = c.in_ok-note_class.ensures in
    let up = c.given_superclass-at.result in
    let other : ¬ (superclasses_in family c.args.class ≡ c.in-Some.left ∷ []) = λ has.
    let clash : false ≡ true = c.if-is_class.ensures.1
    (only_one c.given_superclass-to.result c.in-Some.left (sym c.given_superclass-to.ensures.value ∙ has)) in cc in
    record {
      notes = record { comes = e.notes.comes; keeps = λ q ends. e.notes.keeps q (before.notes.keeps q ends) };
      stands = below_next family c.args.class c.in-Some.left c.loop-at.at up c.in-Some.is
          c.given_superclass-at.ensures.value other before.stands;
      left = λ name.
          let own = own_in s name in
          elim (before.left name) [
            | inl noted ↦ inl (λ q are. e.notes.keeps q (noted q are))
            | inr pass ↦ elim (e.noted name) [
              | inl noted ↦ inl noted
              | inr none ↦ inr (λ r near. passes_up family own c.in-Some.left r up none
                  c.given_superclass-at.ensures.value
                  (subst (λ (o : Option ℕ). NearestFrom family own o r) c.in-Some.is (pass r near)))
            ]
          ];
    }
