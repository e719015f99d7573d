use Rattle.std.proofs.lemmas.Result.{on_ok_weaker}
use Rattle.object_graph.proofs.PlaceLemmas.{not_initialized, statics_of_region}
use Rattle.object_graph.proofs.reach.visit_statics_of.Goals as goal

pub returns-in-Some : goal.returns-in-Some
returns-in-Some c =
    on_ok_weaker c.visit_fields.result
    (statics_of_region c.args.program.now c.args.regions.now c.args.class c.in-Some.region.now
    c.static_count-count.result c.args.found.now c.visit_fields.new.found c.in-Some.ensures
    c.static_count-count.ensures)
    c.visit_fields.ensures

pub returns-in-None : goal.returns-in-None
returns-in-None c =
    not_initialized c.args.program.now c.args.regions.now c.args.class c.args.found.now c.in-None.ensures
