use Rattle.std.proofs.Common.{◌≡◌, ℕ, ◌++◌, drop, map, reverse, subst, arith}
use Rattle.hierarchy.specs.declared.ascent.Visit.TheVariants.{Enter}
use Rattle.hierarchy.proofs.AscentsLemmas.{planned_none, planned_one}
use Rattle.hierarchy.proofs.ascent.plan.Goals as goal

pub loop-index-init : goal.loop-index-init
loop-index-init c = planned_none c.args.classes.now c.args.todo.now.items

pub loop-index-preserved : goal.loop-index-preserved
loop-index-preserved c =
    planned_one c.args.classes.now c.loop-index.index c.loop-index.todo.items c.push.new.self.items
    (reverse c.args.todo.now.items)
    (omega arith) (omega arith) c.in_ok-push.ensures.items c.loop-index.invariant

pub returns : goal.returns
returns c =
    let none : c.loop-index.index ≡ 0 = omega arith in
    subst (λ (i : ℕ). reverse c.loop-index.todo.items
    ≡ map Enter (drop i c.args.classes.now) ++ reverse c.args.todo.now.items) none c.loop-index.invariant
