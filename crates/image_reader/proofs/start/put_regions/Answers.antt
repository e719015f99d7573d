use Rattle.std.proofs.Common.{◌≤◌, ◌∙◌, length, refl, arith}
use Rattle.image_reader.proofs.PlacingLemmas.{all_placed, next_placed, none_placed, still_left}
use Rattle.image_reader.proofs.start.put_regions.Goals as goal

pub loop-class-init : goal.loop-class-init
loop-class-init c = record {
  placed = none_placed (record { program = c.args.program.now; regions = c.args.regions }) _;
  left = λ d past. refl;
}

pub loop-class-preserved : goal.loop-class-preserved
loop-class-preserved c =
    let so_far = c.loop-class.invariant in
    let taken = c.take-region.ensures.taken ∙ so_far.left c.loop-class.class (omega arith) in
    record {
      placed =
          next_placed (record { program = c.args.program.now; regions = c.args.regions }) c.loop-class.class _ _ _
          so_far.placed (rw taken at c.in_ok-put_region.ensures);
      left = λ d past.
          rw c.take-region.ensures.left (still_left c.loop-class.left c.loop-class.class d past)
          ∙ so_far.left d (omega (arith, past));
    }

pub returns : goal.returns
returns c =
    let past : length c.args.program.now.classes ≤ c.loop-class.class =
    rw c.given_count-class-end.ensures.value at c.loop-class-test.false in
    all_placed (record { program = c.args.program.now; regions = c.args.regions }) c.requires c.loop-class.class _ _
    past
    c.loop-class.invariant.placed
