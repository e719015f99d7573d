use Rattle.std.proofs.Common.{◌≡◌, length, vec_len}
use Rattle.graph.specs.steps.Flags.{IsVisited}
use Rattle.graph.proofs.visited.Visited.clear.Given as goal

abbrev pub invariant-loop-member : goal.invariant-loop-member
invariant-loop-member l = record {
  limit : length l.self-inside.flags.items ≡ length l.initial.self-inside.flags.items;
  visited : IsVisited l.self-inside.flags.items l.self-inside.order.items;
}

abbrev pub decreases-loop-member : goal.decreases-loop-member
decreases-loop-member l = vec_len l.self-inside.order
