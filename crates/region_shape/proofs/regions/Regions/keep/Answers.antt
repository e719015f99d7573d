use Rattle.std.proofs.Common.{ap, ◌∙◌}
use Rattle.region_shape.specs.Regions.{region_in}
use Rattle.region_shape.proofs.RegionsLemmas.{region_in_more}
use Rattle.region_shape.proofs.regions.Regions.keep.Goals as goal

pub loop-self-init : goal.loop-self-init
loop-self-init c = ap region_in c.self.view_is

pub loop-self-preserved : goal.loop-self-preserved
loop-self-preserved c =
    ap region_in c.in_ok-push.ensures.items
    ∙ (region_in_more c.loop-self.self-inside.regions.items ∙ c.loop-self.invariant)
