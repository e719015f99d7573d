use Rattle.std.proofs.Common.{◌≡◌, take, string_bytes}
use Rattle.std.specs.List.{flat_map}
use Rattle.explain.specs.Costs.{cost_text}
use Rattle.explain.proofs.lines.cost_lines.Given as goal

abbrev pub invariant-loop-cost : goal.invariant-loop-cost
invariant-loop-cost l = string_bytes l.text ≡ flat_map (λ found. cost_text l.family found) (take l.cost-index l.costs)
