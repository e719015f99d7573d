use Rattle.std.proofs.Common.{ℕ, List, reverse}
use Rattle.hierarchy.specs.steps.Ascents.{IsWithin, KeepsRoom, Ascending, work_left}
use Rattle.hierarchy.proofs.ascent.go_on.Given as goal

abbrev pub invariant-loop-visit : goal.invariant-loop-visit
invariant-loop-visit l = record {
  room : KeepsRoom l.fn.ascent l.ascent;
  within : IsWithin l.family l.ascent;
  ascending : (from : List ℕ)
      → Ascending l.family from (reverse l.fn.ascent.todo.items) l.fn.ascent.entered.items l.fn.ascent.left.items
      → Ascending l.family from (reverse l.ascent.todo.items) l.ascent.entered.items l.ascent.left.items;
}

abbrev pub decreases-loop-visit : goal.decreases-loop-visit
decreases-loop-visit l = work_left l.family l.ascent.entered.limit l.ascent.entered.items l.ascent.todo.items
