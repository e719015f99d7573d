use Rattle.std.proofs.Common.{reverse}
use Rattle.std.proofs.lemmas.Result.{on_ok_weaker}
use Rattle.hierarchy.proofs.AscentsLemmas.{started_within, ascent_start, ascent_postorder, ascent_search}
use Rattle.hierarchy.proofs.ascent.Ascent.above.Goals as goal

pub go_on-requires-clause-within : goal.go_on-requires-clause-within
go_on-requires-clause-within c =
    started_within c.args.family.now c.args.from.now c.forget.new.self.todo.items (reverse c.plan.new.todo.items)
    c.forget.ensures.todo c.in_ok-plan.ensures c.requires.from

pub returns-clause-entered : goal.returns-clause-entered
returns-clause-entered c =
    let family = c.args.family.now in
    let from = c.args.from.now in
    on_ok_weaker c.go_on.result
    (λ ascending. ascent_search family from c.go_on.new.ascent.entered.items c.go_on.new.ascent.left.items
    (ascending from (ascent_start family from c.forget.new.self.todo.items (reverse c.plan.new.todo.items)
    c.forget.new.self.entered.items c.forget.new.self.left.items
    c.forget.ensures.todo c.forget.ensures.entered c.forget.ensures.left c.in_ok-plan.ensures c.requires.fits)))
    c.go_on.ensures.ascending

pub returns-clause-left : goal.returns-clause-left
returns-clause-left c =
    let family = c.args.family.now in
    let from = c.args.from.now in
    on_ok_weaker c.go_on.result
    (λ ascending. ascent_postorder family from c.go_on.new.ascent.entered.items c.go_on.new.ascent.left.items
    (ascending from (ascent_start family from c.forget.new.self.todo.items (reverse c.plan.new.todo.items)
    c.forget.new.self.entered.items c.forget.new.self.left.items
    c.forget.ensures.todo c.forget.ensures.entered c.forget.ensures.left c.in_ok-plan.ensures c.requires.fits)))
    c.go_on.ensures.ascending
