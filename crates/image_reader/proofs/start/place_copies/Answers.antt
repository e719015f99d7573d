use Rattle.std.proofs.Common.{◌≤◌, length}
use Rattle.image_reader.proofs.PlacingLemmas.{all_placed, next_placed}
use Rattle.image_reader.proofs.start.place_copies.Goals as goal

pub loop-class-preserved : goal.loop-class-preserved
loop-class-preserved c =
    next_placed c.args.image.now c.loop-class.class _ _ _ c.loop-class.invariant
    (rw c.in_ok-copy.ensures at c.in_ok-put_region.ensures)

pub returns : goal.returns
returns c =
    let past : length c.args.image.now.program.classes ≤ c.loop-class.class =
    rw c.program.ensures at rw c.given_count-class-end.ensures.value at c.loop-class-test.false in
    all_placed c.args.image.now c.region-held.ensures.small c.loop-class.class _ _ past c.loop-class.invariant
