use Rattle.std.proofs.Common.{arith}
use Rattle.graph.specs.Reaches.{OnCycle}
use Rattle.graph.proofs.RowsLemmas.{has_successor}
use Rattle.graph.proofs.DescendingLemmas.{one_more}
use Rattle.graph.proofs.cycle.least_by.Goals as goal

pub is_on_cycle-requires-clause-vertex : goal.is_on_cycle-requires-clause-vertex
is_on_cycle-requires-clause-vertex c =
    omega (arith, has_successor c.args.graph.now c.args.known c.requires.known.0 c.requires.known.1)

pub loop-vertex-preserved : goal.loop-vertex-preserved
loop-vertex-preserved c = one_more (λ u. OnCycle c.args.graph.now u → ⊥) c.loop-vertex.vertex c.loop-vertex.invariant
    (λ on. (let yes = c.is_on_cycle.ensures.1 on in absurd cc))

pub returns : goal.returns
returns c = record { on_cycle = c.requires.known; least = λ u h. c.loop-vertex.invariant u (omega arith) }
