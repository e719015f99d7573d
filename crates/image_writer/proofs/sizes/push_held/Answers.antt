use Rattle.std.proofs.Common.{sym}
use Rattle.region_shape.specs.Regions.{region_of, environment_of}
use Rattle.image_writer.proofs.SizesLemmas.{region_sized}
use Rattle.image_writer.proofs.sizes.push_held.Goals as goal

pub push_region-requires-clause-sized : goal.push_region-requires-clause-sized
push_region-requires-clause-sized c =
    region_sized c.args.image.now.program (environment_of c.args.image.now.regions) c.requires.files
    c.in-Some.ensures.whole c.in-Some.ensures.small c.args.class (region_of c.in-Some.region.now)
    (sym c.in-Some.ensures.value)

pub push_region-requires-clause-few : goal.push_region-requires-clause-few
push_region-requires-clause-few c =
    c.in-Some.ensures.small.objects c.args.class (region_of c.in-Some.region.now) (sym c.in-Some.ensures.value)
