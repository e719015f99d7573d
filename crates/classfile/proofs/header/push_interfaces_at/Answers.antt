use Rattle.std.proofs.lemmas.Result.{err_from_is_err_and}
use Rattle.classfile.specs.reading.Class.{interface_at}
use Rattle.classfile.proofs.RepeatLemmas.{next_item, item_fails, all_items}
use Rattle.classfile.proofs.header.push_interfaces_at.Goals as goal

pub returns-in_err-interface : goal.returns-in_err-interface
returns-in_err-interface c =
    let p = err_from_is_err_and c.from_residual.result c.from_residual.ensures.1 in
    rw (p.1, p.2) (item_fails (λ earlier. interface_at c.args.pool.now c.args.total) c.in_err-interface.field-0.0 _ _
    c.loop-index-test.true c.in_err-interface.ensures c.loop-index.invariant)

pub loop-index-preserved : goal.loop-index-preserved
loop-index-preserved c =
    rw (c.in_ok-push.ensures.items) (next_item (λ earlier. interface_at c.args.pool.now c.args.total)
    c.loop-index-test.true c.in_ok-interface.ensures c.loop-index.invariant)

pub returns : goal.returns
returns c = all_items (λ earlier. interface_at c.args.pool.now c.args.total) c.loop-index-test.false
    c.loop-index.invariant
