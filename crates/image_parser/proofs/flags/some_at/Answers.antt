use Rattle.std.proofs.Common.{refl}
use Rattle.region_shape.specs.Regions.{region_of}
use Rattle.image_parser.proofs.ObjectReadsLemmas.{some_held}
use Rattle.image_parser.proofs.flags.some_at.Goals as goal

pub returns : goal.returns
returns c =
    some_held c.args.program.now c.region_at.new.program c.in_ok-region.rest.now (region_of c.in_ok-region.region) _ _
    (λ told is. rw is refl) c.in_ok-region.ensures
