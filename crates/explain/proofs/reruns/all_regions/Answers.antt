use Rattle.std.proofs.Common.{◌≤◌, length}
use Rattle.region_shape.specs.Regions.{environment_of}
use Rattle.explain.proofs.OthersLemmas.{first_every, first_more}
use Rattle.explain.proofs.reruns.all_regions.Goals as goal

pub loop-class-preserved : goal.loop-class-preserved
loop-class-preserved c =
    first_more (environment_of c.args.image.now.regions) c.loop-class.class (environment_of c.loop-class.regions)
    (environment_of c.add_region.new.regions) c.loop-class.invariant c.in_ok-add_region.ensures.here
    c.in_ok-add_region.ensures.others

pub returns : goal.returns
returns c =
    let past : length c.args.image.now.program.classes ≤ c.loop-class.class =
    rw c.program.ensures at rw c.given_count-class-end.ensures.value at c.loop-class-test.false in
    first_every c.args.image.now c.loop-class.class (environment_of c.loop-class.regions) c.region-first.ensures.small
    past c.loop-class.invariant
