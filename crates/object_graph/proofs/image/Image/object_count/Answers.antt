use Rattle.std.proofs.Common.{ap, ◌∙◌, sym}
use Rattle.region_shape.specs.Regions.{region_of}
use Rattle.object_graph.specs.Images.{object_count}
use Rattle.object_graph.proofs.image.Image.object_count.Goals as goal

pub count_of-requires : goal.count_of-requires
count_of-requires c =
    c.in-Some.ensures.small.objects c.args.class (region_of c.in-Some.region.now) (sym c.in-Some.ensures.value)

pub returns-in-Some : goal.returns-in-Some
returns-in-Some c = c.count_of.ensures ∙ ap object_count c.in-Some.ensures.value

pub returns-in-None : goal.returns-in-None
returns-in-None c = ap object_count c.in-None.ensures.value
