use Rattle.std.proofs.Common.{◌≡◌, ℕ, length, take, slice_get, slice_index_or, Some}
use Rattle.std.specs.List.{Contains}
use Rattle.hierarchy.proofs.depth_first.places_in.Given as goal

-- the classes that came have their places
abbrev pub invariant-loop-place : goal.invariant-loop-place
invariant-loop-place l = record {
  len : length l.places.items ≡ l.count;
  there : (c : ℕ) → Contains (take l.place l.order) c → slice_get l.order (slice_index_or l.places.items c 0)
      ≡ Some c;
}
