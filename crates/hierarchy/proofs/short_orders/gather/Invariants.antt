use Rattle.std.proofs.Common.{◌≡◌, take}
use Rattle.hierarchy.specs.Search.{firsts}
use Rattle.hierarchy.specs.steps.InterfaceOrders.{Gathers}
use Rattle.hierarchy.specs.steps.Ascents.{KeepsRoom}
use Rattle.hierarchy.proofs.short_orders.gather.Given as goal

abbrev pub invariant-loop-interface : goal.invariant-loop-interface
invariant-loop-interface l = record {
  room : KeepsRoom l.fn.ascent l.ascent;
  once : l.ascent.left.items ≡ firsts l.ascent.left.items;
  gathered : Gathers l.family (take l.interface-index l.interface-items) l.ascent.left.items;
}
