use Rattle.std.proofs.lemmas.Result.{err_from_is_err_and}
use Rattle.image_parser.proofs.HalvesLemmas.{past_all, past_fails, past_next}
use Rattle.image_parser.proofs.halves.past.Goals as goal

pub returns-in_err-after : goal.returns-in_err-after
returns-in_err-after c =
    let p = err_from_is_err_and c.from_residual.result c.from_residual.ensures.1 in
    rw (p.1, p.2) (past_fails c.in_err-after.field-0.0 _ c.loop-index-test.true c.in_err-after.ensures
    c.loop-index.invariant)

pub loop-index-preserved : goal.loop-index-preserved
loop-index-preserved c = past_next _ c.loop-index-test.true c.in_ok-after.ensures c.loop-index.invariant

pub returns : goal.returns
returns c = past_all _ c.loop-index-test.false c.loop-index.invariant
