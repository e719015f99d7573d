use Rattle.use_graph.specs.steps.Deeds.{HoldsOfOne}
use Rattle.audit.specs.steps.Reaching.{IsToldPlace, IsStartPlace}
use Rattle.audit.proofs.PlacesLemmas.{added_twice}
use Rattle.audit.proofs.places.add_reached.Goals as goal

pub returns : goal.returns
returns c =
    added_twice c.args.places.now.items c.add_start.new.places.items c.add_told.new.places.items
    (IsStartPlace c.args.program.now c.args.entries.now c.args.method)
    (HoldsOfOne (IsToldPlace c.args.method) c.args.told.now) c.in_ok-add_start.ensures c.in_ok-add_told.ensures
