use Rattle.object_graph.proofs.PlaceLemmas.{in_place, no_place}
use Rattle.object_graph.proofs.pools.place_in.Goals as goal

pub returns-in-Some : goal.returns-in-Some
returns-in-Some c =
    in_place c.args.regions.now c.args.class c.args.number c.in-Some.index c.count_in-count.ensures.ascending
    c.in-Some.ensures.held

pub returns-in-None : goal.returns-in-None
returns-in-None c =
    no_place c.args.regions.now c.args.class c.args.number c.count_in-count.ensures.ascending
    c.in-None.ensures.none
