use Rattle.std.proofs.Common.{◌≡◌, ℕ, take, slice_index}
use Rattle.std.specs.List.{Contains}
use Rattle.graph.proofs.cycle.leads_into.Given as goal

abbrev pub invariant-loop-vertex : goal.invariant-loop-vertex
invariant-loop-vertex l = (b : ℕ) → Contains (take l.vertex-index l.row) b
    → slice_index l.components.numbers b ≡ l.number → ⊥
