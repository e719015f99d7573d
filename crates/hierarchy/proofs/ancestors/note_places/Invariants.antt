use Rattle.std.proofs.Common.{◌≡◌, ℕ, length, take, slice_get, slice_index_or, Some}
use Rattle.std.specs.List.{Contains}
use Rattle.hierarchy.proofs.ancestors.note_places.Given as goal

-- the classes that came have their places
abbrev pub invariant-loop-place : goal.invariant-loop-place
invariant-loop-place l = record {
  len : length l.places.items ≡ length l.initial.places.items;
  there : (c : ℕ) → Contains (take l.place l.classes.items) c
      → slice_get l.classes.items (slice_index_or l.places.items c 0) ≡ Some c;
}
