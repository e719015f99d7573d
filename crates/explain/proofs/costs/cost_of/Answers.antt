use Rattle.explain.proofs.CostsLemmas.{least_same}
use Rattle.explain.proofs.costs.cost_of.Goals as goal

pub cost_at-requires : goal.cost_at-requires
cost_at-requires c = least_same _ _ _ _ _ _ _ c.in_ok-cost-in-Wave.ensures.least c.program.ensures c.requires
