-- Flags of indices by row, beside the places that they flag.
use Rattle.std.specs.Prelude.{◌≡◌, ◌↔◌, ◌⊎◌, ℕ, ◌<◌, Bool, true, false, List, [], length, map, slice_index_or}
use Rattle.std.specs.List.{Contains}
use Rattle.std.specs.declared.vec.Vec.{Vec}
use Rattle.std.specs.declared.alloc.Global.{Global}
use Rattle.place_set.specs.declared.set.Place.{Place}
use Rattle.place_set.specs.Distinct.{AreDistinct}

-- by row a row of flags
abbrev pub rows_of : List (Vec Bool Global) → List (List Bool)
rows_of rows = map (λ (row : Vec Bool Global). row.items) rows

-- the flag of each index; none past the end
abbrev pub flags_in : List Bool → ℕ → Bool
flags_in row n = slice_index_or row n false

abbrev pub is_flagged : List (List Bool) → Place → Bool
is_flagged rows x = flags_in (slice_index_or rows x.row []) x.index

-- room is kept for the flag of a place
abbrev pub HasRoom : List (List Bool) → Place → Type 0
HasRoom rows x = x.index < length (slice_index_or rows x.row [])

-- Exactly one more place is flagged.
abbrev pub Sets : List (List Bool) → Place → List (List Bool) → Type 0
Sets old place new = (x : Place) → (is_flagged new x ≡ true) ↔ ((is_flagged old x ≡ true) ⊎ (x ≡ place))

-- The flags are those of the places, none of which is listed twice.
pub record AreFlags (rows : List (Vec Bool Global)) (places : List Place) : Type 0 where
  pub flagged : (x : Place) → (is_flagged (rows_of rows) x ≡ true) ↔ Contains places x
  pub distinct : AreDistinct places
