use Rattle.std.proofs.Common.{◌≡◌, ◌<◌, length, ◌∷◌, ◌++◌, Bool, map, reverse, true, false, subst}
use Rattle.std.proofs.lemmas.List.Elements.{All-cons}
use Rattle.std.proofs.lemmas.Result.{on_ok_weaker}
use Rattle.graph.specs.Seen.{Joins}
use Rattle.loading.specs.Families.{parents_in}
use Rattle.hierarchy.specs.steps.Ascents.{class_of}
use Rattle.hierarchy.specs.declared.ascent.Visit.TheVariants.{Enter, Leave}
use Rattle.hierarchy.proofs.AscentsLemmas.{ascent_enter, ascent_again, planned_within, enter_nearer, planned_after}
use Rattle.hierarchy.proofs.ascent.enter.Goals as goal

pub returns-then-not-branch-clause-ascending : goal.returns-then-not-branch-clause-ascending
returns-then-not-branch-clause-ascending c =
    let joins : Joins false c.args.ascent.now.entered.items c.args.class c.add.new.self.items =
    subst (λ (b : Bool). Joins b c.args.ascent.now.entered.items c.args.class c.add.new.self.items) c.if-not-branch.true
    c.in_ok-add.ensures.ok in
    λ from w. rw joins.1
    (ascent_again c.args.family.now from (reverse c.args.ascent.now.todo.items) c.args.ascent.now.entered.items
    c.args.ascent.now.left.items c.args.class joins.0 w)

pub returns-clause-steps : goal.returns-clause-steps
returns-clause-steps c =
    let family = c.args.family.now in
    let class = c.args.class in
    let todo = c.args.ascent.now.todo.items in
    let joins : Joins true c.args.ascent.now.entered.items class c.add.new.self.items =
    subst (λ (b : Bool). Joins b c.args.ascent.now.entered.items class c.add.new.self.items) c.if-not-branch.false
    c.in_ok-add.ensures.ok in
    let after = λ (planned : reverse c.plan_parents.new.todo.items
    ≡ map Enter (parents_in family class) ++ reverse c.push.new.self.items).
    planned_after class todo c.push.new.self.items (reverse c.plan_parents.new.todo.items)
    (map Enter (parents_in family class)) c.in_ok-push.ensures.items planned in
    on_ok_weaker c.plan_parents.result
    (λ (planned : reverse c.plan_parents.new.todo.items
    ≡ map Enter (parents_in family class) ++ reverse c.push.new.self.items). record {
      within = rw (after planned) (planned_within family class (Leave class ∷ reverse todo) c.requires.parents
          (All-cons (λ visit. class_of visit < length family) (Leave class) (reverse todo) c.requires.class
          c.requires.within));
      nearer = rw c.add.ensures.limit
          (enter_nearer family c.args.ascent.now.entered.limit class c.args.ascent.now.entered.items
          c.add.new.self.items todo c.plan_parents.new.todo.items joins.1
          (rw c.add.ensures.limit at c.add.ensures.small) (after planned));
    })
    c.plan_parents.ensures

pub returns-clause-ascending : goal.returns-clause-ascending
returns-clause-ascending c =
    let joins : Joins true c.args.ascent.now.entered.items c.args.class c.add.new.self.items =
    subst (λ (b : Bool). Joins b c.args.ascent.now.entered.items c.args.class c.add.new.self.items)
    c.if-not-branch.false
    c.in_ok-add.ensures.ok in
    on_ok_weaker c.plan_parents.result
    (λ (planned : reverse c.plan_parents.new.todo.items
    ≡ map Enter (parents_in c.args.family.now c.args.class) ++ reverse c.push.new.self.items).
    λ from w. rw (
      planned_after c.args.class c.args.ascent.now.todo.items c.push.new.self.items _ _
          c.in_ok-push.ensures.items planned,
      joins.1,
    )
    (ascent_enter c.args.family.now from (reverse c.args.ascent.now.todo.items) c.args.ascent.now.entered.items
    c.args.ascent.now.left.items c.args.class joins.0 w))
    c.plan_parents.ensures
