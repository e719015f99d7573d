-- Flags of classes beside a list of them.
use Rattle.std.specs.Prelude.{ℕ, ◌≤◌, Bool, List, take, length}
use Rattle.graph.specs.steps.Flags.{IsVisited}

-- The flags are those of so many members, each of which stands at one place.
pub record IsFlagged (flags : List Bool) (members : List ℕ) (count : ℕ) : Type 0 where
  pub within : count ≤ length members
  pub visited : IsVisited flags (take count members)
