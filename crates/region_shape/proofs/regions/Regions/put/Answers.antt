use Rattle.std.proofs.Common.{ap, ◌∙◌}
use Rattle.region_shape.specs.Regions.{region_in, with_region}
use Rattle.region_shape.proofs.RegionsLemmas.{region_in_put}
use Rattle.region_shape.proofs.regions.Regions.put.Goals as goal

pub returns-in-Ok-clause-ok : goal.returns-in-Ok-clause-ok
returns-in-Ok-clause-ok c =
    ap region_in c.set.ensures
    ∙ (region_in_put c.keep.new.self c.args.class c.args.region c.in-Ok.ensures.ok
    ∙ ap (λ regions. with_region regions c.args.class c.args.region) c.keep.ensures.same)
