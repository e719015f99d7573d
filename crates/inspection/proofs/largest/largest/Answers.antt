use Rattle.std.proofs.Common.{refl, set}
use Rattle.inspection.proofs.LargestLemmas.{completes_early, completes_last, completes_more}
use Rattle.inspection.proofs.largest.largest.Goals as goal

pub returns-in_default : goal.returns-in_default
returns-in_default c =
    completes_early c.args.most c.args.sizes.now c.loop.counter c.loop.left.items c.loop.places.items
    (rw c.deref.ensures.value at c.in_default.ensures.is) c.loop.invariant

pub loop-preserved : goal.loop-preserved
loop-preserved c =
    completes_more c.args.most c.args.sizes.now c.loop.counter c.loop.left.items c.loop.places.items
    (set c.loop.left.items c.in-Some.place 0) c.push.new.self.items c.in-Some.place c.loop-test.true
    (rw c.deref.ensures.value at c.in-Some.ensures.is) refl c.in_ok-push.ensures.items c.loop.invariant

pub returns : goal.returns
returns c =
    completes_last c.args.most c.args.sizes.now c.loop.counter c.loop.left.items c.loop.places.items
    c.loop-test.false c.loop.invariant
