use Rattle.std.proofs.lemmas.Result.{err_from_is_err_and}
use Rattle.classfile.specs.reading.Constants.{is_after_wide}
use Rattle.classfile.proofs.ConstantsLemmas.{next_constant, constant_fails, all_constants}
use Rattle.classfile.proofs.constants_reading.push_constants_at.Goals as goal

pub returns-in_err-constant : goal.returns-in_err-constant
returns-in_err-constant c =
    let p = err_from_is_err_and c.from_residual.result c.from_residual.ensures.1 in
    rw (p.1, p.2) (constant_fails c.in_err-constant.field-0.0 c.loop-index.constants.items
    (is_after_wide c.loop-index.before) c.args.total c.args.count
    c.loop-index.index c.loop-index.rest.now _ c.loop-index-test.true c.in_err-constant.ensures c.loop-index.invariant)

pub loop-index-preserved : goal.loop-index-preserved
loop-index-preserved c =
    rw (c.in_ok-push.ensures.items, c.previous_of-before.ensures)
    (next_constant c.loop-index.constants.items (is_after_wide c.loop-index.before)
    c.args.total c.args.count c.loop-index.index c.loop-index.rest.now c.in_ok-constant.constant
    c.in_ok-constant.after.now _
    c.loop-index-test.true c.in_ok-constant.ensures c.loop-index.invariant)

pub returns : goal.returns
returns c = all_constants c.loop-index.constants.items (is_after_wide c.loop-index.before) c.args.total c.args.count
    c.loop-index.index
    c.loop-index.rest.now _ c.loop-index-test.false c.loop-index.invariant
