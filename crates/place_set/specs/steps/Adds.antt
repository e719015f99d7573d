-- A list to which places were added.
use Rattle.std.specs.Prelude.{◌≡◌, ◌⊎◌, ℕ, ◌<◌, ◌≤◌, List, length, slice_get}
use Rattle.std.specs.List.{Contains}
use Rattle.place_set.specs.declared.set.Place.{Place}

-- What was there stays where it was, and after it come those of these places that are new.
pub record Adds (old : List Place) (these : Place → Type 0) (new : List Place) : Type 0 where
  pub grows : length old ≤ length new
  pub same : (k : ℕ) → k < length old → slice_get new k ≡ slice_get old k
  pub keeps : (x : Place) → Contains old x → Contains new x
  pub added : (x : Place) → these x → Contains new x
  pub only : (x : Place) → Contains new x → Contains old x ⊎ these x
