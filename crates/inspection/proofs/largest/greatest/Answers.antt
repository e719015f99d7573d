use Rattle.std.proofs.Common.{refl}
use Rattle.inspection.proofs.LargestLemmas.{best_of_none, found_within, greatest_is_best}
use Rattle.inspection.proofs.largest.greatest.Goals as goal

pub loop-place-init : goal.loop-place-init
loop-place-init c = best_of_none c.args.sizes.now _ refl

pub loop-place-preserved : goal.loop-place-preserved
loop-place-preserved c = c.better-best.ensures c.args.sizes.now c.size_at.ensures c.loop-place.invariant

pub returns-clause-is : goal.returns-clause-is
returns-clause-is c =
    greatest_is_best c.args.sizes.now c.loop-place.place c.loop-place.best c.loop-place-test.false
    c.loop-place.invariant

pub returns-clause-within : goal.returns-clause-within
returns-clause-within c =
    found_within c.args.sizes.now c.loop-place.best.place
    (greatest_is_best c.args.sizes.now c.loop-place.place c.loop-place.best c.loop-place-test.false
    c.loop-place.invariant)
