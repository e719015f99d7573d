use Rattle.std.proofs.Common.{◌≡◌, ℕ, ◌<◌, ◌≤◌, length, slice_index}
use Rattle.std.specs.List.{Contains}
use Rattle.graph.specs.steps.Numbering.{Numbered}
use Rattle.graph.proofs.numbering.number_all.Given as goal

abbrev pub invariant-loop-place : goal.invariant-loop-place
invariant-loop-place l = record {
  limit : l.seen.limit ≡ length l.back;
  small : l.place ≤ length l.order;
  numbered : Numbered l.back l.seen.items l.numbers;
  later : (k : ℕ) → l.place ≤ k → k < length l.order → Contains l.seen.items (slice_index l.order k);
}

abbrev pub decreases-loop-place : goal.decreases-loop-place
decreases-loop-place l = l.place
