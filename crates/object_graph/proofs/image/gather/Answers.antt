use Rattle.std.proofs.Common.{refl}
use Rattle.region_shape.specs.Regions.{environment_of}
use Rattle.object_graph.specs.Cuts.{AreReached, IsCutOf}
use Rattle.object_graph.specs.Images.{AreSmall}
use Rattle.object_graph.proofs.CuttingLemmas.{all_cut, left_fits}
use Rattle.region_shape.specs.Wholes.{AreWhole}
use Rattle.object_graph.proofs.image.gather.Goals.{In-Ok}
use Rattle.object_graph.proofs.image.gather.Goals as goal

left : (c : In-Ok)
    → IsCutOf c.args.program (environment_of c.args.regions) (environment_of c.cut_classes.new.regions)
left c =
    all_cut c.args.program c.in_ok-found.found c.args.regions c.cut_classes.new.regions c.given_count.result
    c.requires.small c.given_count.ensures.value c.in_ok-found.ensures c.in-Ok.ensures.cut c.in-Ok.ensures.other

-- what is left is as an image wants it
fits : (c : In-Ok) → AreWhole c.args.program (environment_of c.cut_classes.new.regions)
    × AreSmall c.args.program (environment_of c.cut_classes.new.regions)
    × AreReached c.args.program (environment_of c.cut_classes.new.regions)
fits c =
    left_fits c.args.program (environment_of c.args.regions) (environment_of c.cut_classes.new.regions)
    c.classes-classes.ensures.fits c.requires.whole c.requires.small (left c)

pub of_reached-requires-clause-whole : goal.of_reached-requires-clause-whole
of_reached-requires-clause-whole c = (fits c).0

pub of_reached-requires-clause-small : goal.of_reached-requires-clause-small
of_reached-requires-clause-small c = (fits c).1

pub of_reached-requires-clause-reached : goal.of_reached-requires-clause-reached
of_reached-requires-clause-reached c = (fits c).2

pub returns-in-Ok-clause-cut : goal.returns-in-Ok-clause-cut
returns-in-Ok-clause-cut c =
    rw c.of_reached.ensures
    (all_cut c.args.program c.in_ok-found.found c.args.regions c.cut_classes.new.regions c.given_count.result
    c.requires.small c.given_count.ensures.value c.in_ok-found.ensures c.in-Ok.ensures.cut c.in-Ok.ensures.other)

pub returns-in-Ok-clause-program : goal.returns-in-Ok-clause-program
returns-in-Ok-clause-program c = rw c.of_reached.ensures refl
