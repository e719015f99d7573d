-- Lists of places in rows.
use Rattle.std.specs.Prelude.{◌≡◌, ℕ, List, Some, slice_get}
use Rattle.place_set.specs.declared.set.Place.{Place}

-- no place is listed twice
abbrev pub AreDistinct : List Place → Type 0
AreDistinct places =
    (i j : ℕ) (x : Place) → slice_get places i ≡ Some x → slice_get places j ≡ Some x → i ≡ j
