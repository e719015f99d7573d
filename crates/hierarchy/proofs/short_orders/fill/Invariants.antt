use Rattle.hierarchy.specs.steps.InterfaceOrders.{AreShort}
use Rattle.hierarchy.specs.steps.Ascents.{KeepsRoom}
use Rattle.hierarchy.proofs.short_orders.fill.Given as goal

abbrev pub invariant-loop-class : goal.invariant-loop-class
invariant-loop-class l = record {
  room : KeepsRoom l.fn.ascent l.ascent;
  short : AreShort l.family l.rows.items;
}
