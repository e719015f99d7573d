use Rattle.std.proofs.lemmas.Result.{on_ok_weaker}
use Rattle.place_set.proofs.AddsLemmas.{adds_none}
use Rattle.object_graph.specs.steps.Places.{IsPlaceOf}
use Rattle.object_graph.proofs.PlaceLemmas.{one_place}
use Rattle.object_graph.proofs.reach.visit_value.Goals as goal

pub returns-in-Some : goal.returns-in-Some
returns-in-Some c =
    on_ok_weaker c.add.result
    (one_place c.args.regions.now c.args.value c.in-Some.place c.args.found.now c.add.new.self c.in-Some.ensures)
    c.add.ensures

pub returns-in-None : goal.returns-in-None
returns-in-None c = adds_none c.args.found.now (IsPlaceOf c.args.regions.now c.args.value) c.in-None.ensures
