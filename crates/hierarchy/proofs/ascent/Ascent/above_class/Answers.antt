use Rattle.std.proofs.Common.{reverse, ◌<◌, [], length}
use Rattle.std.proofs.lemmas.Result.{on_ok_weaker}
use Rattle.loading.specs.Families.{parents_in}
use Rattle.std.proofs.lemmas.List.Elements.{All-nil}
use Rattle.hierarchy.specs.steps.Ascents.{class_of}
use Rattle.hierarchy.proofs.AscentsLemmas.{planned_within, ascent_start, ascent_postorder, ascent_search}
use Rattle.hierarchy.proofs.ascent.Ascent.above_class.Goals as goal

pub go_on-requires-clause-within : goal.go_on-requires-clause-within
go_on-requires-clause-within c =
    let family = c.args.family.now in
    rw (c.in_ok-plan_parents.ensures, c.forget.ensures.todo)
    (planned_within family c.args.class [] c.requires.parents (All-nil (λ visit. class_of visit < length family)))

pub returns-clause-entered : goal.returns-clause-entered
returns-clause-entered c =
    let family = c.args.family.now in
    let from = parents_in family c.args.class in
    on_ok_weaker c.go_on.result
    (λ ascending. ascent_search family from c.go_on.new.ascent.entered.items c.go_on.new.ascent.left.items
    (ascending from (ascent_start family from c.forget.new.self.todo.items (reverse c.plan_parents.new.todo.items)
    c.forget.new.self.entered.items c.forget.new.self.left.items
    c.forget.ensures.todo c.forget.ensures.entered c.forget.ensures.left c.in_ok-plan_parents.ensures c.requires.fits)))
    c.go_on.ensures.ascending

pub returns-clause-left : goal.returns-clause-left
returns-clause-left c =
    let family = c.args.family.now in
    let from = parents_in family c.args.class in
    on_ok_weaker c.go_on.result
    (λ ascending. ascent_postorder family from c.go_on.new.ascent.entered.items c.go_on.new.ascent.left.items
    (ascending from (ascent_start family from c.forget.new.self.todo.items (reverse c.plan_parents.new.todo.items)
    c.forget.new.self.entered.items c.forget.new.self.left.items
    c.forget.ensures.todo c.forget.ensures.entered c.forget.ensures.left c.in_ok-plan_parents.ensures c.requires.fits)))
    c.go_on.ensures.ascending
