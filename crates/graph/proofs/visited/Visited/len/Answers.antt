use Rattle.std.proofs.Common.{subst}
use Rattle.graph.specs.Seen.{Seen, AreDistinct}
use Rattle.graph.proofs.FlagsLemmas.{visited_distinct}
use Rattle.graph.proofs.visited.Visited.len.Goals as goal

pub returns-clause-distinct : goal.returns-clause-distinct
returns-clause-distinct c =
    subst (λ (s : Seen). AreDistinct s.items) c.self.view_is
    (visited_distinct c.self.inside.flags.items c.self.inside.order.items c.self.invariant)
