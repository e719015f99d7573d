use Rattle.std.proofs.lemmas.Result.{err_from_is_err_and}
use Rattle.classfile.specs.reading.Code.{handler_at}
use Rattle.classfile.proofs.RepeatLemmas.{next_item, item_fails, all_items}
use Rattle.classfile.proofs.exceptions.push_handlers_at.Goals as goal

pub returns-in_err-handler : goal.returns-in_err-handler
returns-in_err-handler c =
    let p = err_from_is_err_and c.from_residual.result c.from_residual.ensures.1 in
    rw (p.1, p.2)
    (item_fails (λ earlier. handler_at c.args.pool.now c.args.code_length c.args.total) c.in_err-handler.field-0.0 _
    _
    c.loop-index-test.true c.in_err-handler.ensures c.loop-index.invariant)

pub loop-index-preserved : goal.loop-index-preserved
loop-index-preserved c =
    rw (c.in_ok-push.ensures.items) (next_item (λ earlier. handler_at c.args.pool.now c.args.code_length c.args.total)
    c.loop-index-test.true c.in_ok-handler.ensures c.loop-index.invariant)

pub returns : goal.returns
returns c = all_items (λ earlier. handler_at c.args.pool.now c.args.code_length c.args.total) c.loop-index-test.false
    c.loop-index.invariant
