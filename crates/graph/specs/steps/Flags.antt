-- Flags beside the members that they flag.
use Rattle.std.specs.Prelude.{◌≡◌, ℕ, Bool, false, List, length, slice_index_or, count_by, if◌then◌else◌}
use Rattle.graph.specs.Seen.{count_of}

-- the flags are those of the members, each of which stands at one place
pub record IsVisited (flags : List Bool) (order : List ℕ) : Type 0 where
  pub total : count_by (λ b. b) flags ≡ length order
  pub counted : (x : ℕ) → count_of order x ≡ (if slice_index_or flags x false then 1 else 0)
