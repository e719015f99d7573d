use Rattle.std.proofs.Common.{take, drop}
use Rattle.hierarchy.specs.steps.DepthFirst.{IsDepthFirst}
use Rattle.hierarchy.specs.steps.Reaches.{IsReachTable, AllTell, IsLast}
use Rattle.hierarchy.specs.steps.Sweeps.{members_of}
use Rattle.hierarchy.proofs.OrderWalkLemmas.{HasAllAbove}
use Rattle.hierarchy.proofs.sweep.Sweep.note_order.Given as goal

-- the rows tell of the classes that came
abbrev pub invariant-loop-place : goal.invariant-loop-place
invariant-loop-place l = record {
  rows : IsReachTable l.rows;
  tell : AllTell (members_of l.self) (take l.place l.self.order.now) l.rows;
  last : IsLast (take l.place l.self.order.now) l.before;
  all : HasAllAbove l.self.family.now (take l.place l.self.order.now);
  ordered : IsDepthFirst l.self.family.now l.before (drop l.place l.self.order.now);
}
