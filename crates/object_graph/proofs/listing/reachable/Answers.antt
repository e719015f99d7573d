use Rattle.std.proofs.Common.{◌≡◌, ◌∙◌, length}
use Rattle.object_graph.specs.steps.Listed.{names_below}
use Rattle.object_graph.proofs.ListedLemmas.{names_reached}
use Rattle.object_graph.proofs.listing.reachable.Goals as goal

pub returns-in-Ok-clause-reached : goal.returns-in-Ok-clause-reached
returns-in-Ok-clause-reached c =
    let all : c.given_count.result ≡ length c.args.image.now.program.classes =
    rw c.program.ensures at c.given_count.ensures.value in
    let listed : c.of_distinct.result ≡ names_below c.args.image.now.regions c.given_count.result =
    c.of_distinct.ensures ∙ rw c.regions.ensures at c.in-Ok.ensures.listed in
    names_reached c.args.image.now.program c.args.image.now.regions c.region-fits.ensures.whole
    c.region-fits.ensures.small c.region-fits.ensures.reached c.given_count.result c.of_distinct.result all listed
