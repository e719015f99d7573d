use Rattle.std.proofs.Common.{◌≡◌, ℕ, length, take}
use Rattle.std.specs.List.{Contains}
use Rattle.hierarchy.specs.steps.DepthFirst.{Holds}
use Rattle.hierarchy.proofs.depth_first.put_all.Given as goal

-- the classes that came were put into the row
abbrev pub invariant-loop-class : goal.invariant-loop-class
invariant-loop-class l = record {
  limit : l.placed.limit ≡ length l.family;
  len : length l.row.behind.items ≡ length l.family;
  came : (c : ℕ) → Contains (take l.class-index l.order) c → Contains l.placed.items c;
  holds : Holds l.family l.placed.items l.row.first l.row.behind.items;
}
