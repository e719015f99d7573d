-- How large a region is.
use Rattle.std.specs.Prelude.{◌≡◌, ℕ, ◌≤◌, Some}
use Rattle.vm_state.specs.declared.object.Object.{Object}
use Rattle.vm_state.specs.SharedState.{Region}
use Rattle.semantics.specs.Quiet.{elements_in}

-- A region of so many objects at most, none of which is an array of more elements.
pub record IsWithin (n : ℕ) (region : Region) : Type 0 where
  pub count : region.pool.count ≤ n
  pub arrays : (k : ℕ) (object : Object) → region.pool.at k ≡ Some object
      → elements_in object.class object.slots ≤ n
