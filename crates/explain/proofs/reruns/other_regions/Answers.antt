use Rattle.std.proofs.Common.{◌≤◌, length}
use Rattle.region_shape.specs.Regions.{environment_of}
use Rattle.explain.specs.Reruns.{without}
use Rattle.explain.proofs.OthersLemmas.{first_all, first_more}
use Rattle.explain.proofs.reruns.other_regions.Goals as goal

pub loop-other-preserved : goal.loop-other-preserved
loop-other-preserved c =
    first_more (without (environment_of c.args.image.now.regions) c.args.class) c.loop-other.other
    (environment_of c.loop-other.regions) (environment_of c.add_other.new.regions) c.loop-other.invariant
    c.in_ok-add_other.ensures.here c.in_ok-add_other.ensures.others

pub returns : goal.returns
returns c =
    let past : length c.args.image.now.program.classes ≤ c.loop-other.other =
    rw c.program.ensures at rw c.given_count-other-end.ensures.value at c.loop-other-test.false in
    first_all c.args.image.now c.args.class c.loop-other.other (environment_of c.loop-other.regions)
    c.region-own.ensures.small past c.loop-other.invariant
