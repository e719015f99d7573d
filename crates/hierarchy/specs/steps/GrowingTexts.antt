-- Texts that others are added to.
use Rattle.std.specs.Prelude.{◌≡◌, ℕ, List, Some, slice_get}

-- what has a number keeps it
abbrev pub KeepsNumbers : List (List ℕ) → List (List ℕ) → Type 0
KeepsNumbers old new = (i : ℕ) (text : List ℕ) → slice_get old i ≡ Some text → slice_get new i ≡ Some text
