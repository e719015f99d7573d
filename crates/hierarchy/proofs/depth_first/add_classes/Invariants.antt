use Rattle.std.proofs.Common.{◌≡◌, ℕ, ◌≤◌, ◌++◌, ◌-◌, length, List}
use Rattle.hierarchy.specs.steps.DepthFirst.{IsRow}
use Rattle.hierarchy.proofs.depth_first.add_classes.Given as goal

-- what was read, and what is still to be read, are the row
abbrev pub invariant-loop : goal.invariant-loop
invariant-loop l = (cs : List ℕ) → IsRow l.row.behind.items l.row.first cs → (rest : List ℕ)
    × IsRow l.row.behind.items l.at rest × (l.classes.items ++ rest ≡ cs)
    × (length rest ≤ length cs - l.counter)
