use Rattle.std.proofs.Common.{◌≡◌, ◌++◌, drop, map, reverse}
use Rattle.hierarchy.specs.declared.ascent.Visit.TheVariants.{Enter}
use Rattle.hierarchy.proofs.ascent.plan.Given as goal

abbrev pub invariant-loop-index : goal.invariant-loop-index
invariant-loop-index l = reverse l.todo.items ≡ map Enter (drop l.index l.classes) ++ reverse l.fn.todo.items
