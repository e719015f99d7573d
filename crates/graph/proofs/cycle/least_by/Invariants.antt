use Rattle.std.proofs.Common.{ℕ, ◌<◌}
use Rattle.graph.specs.Reaches.{OnCycle}
use Rattle.graph.proofs.cycle.least_by.Given as goal

abbrev pub invariant-loop-vertex : goal.invariant-loop-vertex
invariant-loop-vertex l = (u : ℕ) → u < l.vertex → ¬ OnCycle l.graph u
