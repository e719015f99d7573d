use Rattle.options.proofs.ListsLemmas.{empty_here, full_here, all_full}
use Rattle.options.proofs.patterns.first_empty.Goals as goal

pub returns-then-is_empty : goal.returns-then-is_empty
returns-then-is_empty c =
    empty_here c.args.items.now c.loop-place.place _ c.is_empty.result c.loop-place-test.true c.is_empty.ensures
    c.if-is_empty.true c.loop-place.invariant

pub loop-place-preserved : goal.loop-place-preserved
loop-place-preserved c =
    full_here c.args.items.now c.loop-place.place _ c.is_empty.result c.loop-place-test.true c.is_empty.ensures
    c.if-is_empty.false c.loop-place.invariant

pub returns : goal.returns
returns c = all_full c.args.items.now c.loop-place.place c.loop-place-test.false c.loop-place.invariant
