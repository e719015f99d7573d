use Rattle.std.proofs.Common.{◌≡◌, ◌++◌, take}
use Rattle.hierarchy.specs.Search.{firsts}
use Rattle.hierarchy.proofs.ascent.Ascent.leave_all.Given as goal

abbrev pub invariant-loop-class : goal.invariant-loop-class
invariant-loop-class l = record {
  entered : l.self.entered ≡ l.fn.self.entered;
  limit : l.self.left.limit ≡ l.fn.self.left.limit;
  left : l.self.left.items ≡ firsts (l.fn.self.left.items ++ take l.class-index l.classes);
}
