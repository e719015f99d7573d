use Rattle.std.proofs.lemmas.Result.{err_from_is_err_and}
use Rattle.classfile.specs.reading.Code.{unread_at}
use Rattle.classfile.proofs.RepeatLemmas.{next_item, item_fails, all_items}
use Rattle.classfile.proofs.unread.push_unread_at.Goals as goal

pub returns-in_err-attribute : goal.returns-in_err-attribute
returns-in_err-attribute c =
    let p = err_from_is_err_and c.from_residual.result c.from_residual.ensures.1 in
    rw (p.1, p.2) (item_fails (λ earlier. unread_at c.args.pool.now c.args.total) c.in_err-attribute.field-0.0 _ _
    c.loop-index-test.true c.in_err-attribute.ensures c.loop-index.invariant)

pub loop-index-preserved : goal.loop-index-preserved
loop-index-preserved c =
    rw (c.in_ok-push.ensures.items) (next_item (λ earlier. unread_at c.args.pool.now c.args.total)
    c.loop-index-test.true c.in_ok-attribute.ensures c.loop-index.invariant)

pub returns : goal.returns
returns c = all_items (λ earlier. unread_at c.args.pool.now c.args.total) c.loop-index-test.false c.loop-index.invariant
