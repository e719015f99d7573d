use Rattle.object_graph.proofs.pools.place_named.Goals as goal

pub returns-in-OfClass : goal.returns-in-OfClass
returns-in-OfClass c = rw c.in-OfClass.is c.place_in.ensures
