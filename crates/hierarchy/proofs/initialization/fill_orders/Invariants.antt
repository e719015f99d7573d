use Rattle.std.proofs.Common.{◌≡◌, length}
use Rattle.hierarchy.specs.Initialization.{IsInitializationOrder}
use Rattle.hierarchy.proofs.SearchRowLemmas.{Filled}
use Rattle.hierarchy.proofs.initialization.fill_orders.Given as goal

abbrev pub invariant-loop-class : goal.invariant-loop-class
invariant-loop-class l = record {
  entered : l.ascent.entered.limit ≡ length l.family;
  filled : Filled (IsInitializationOrder l.family) l.family l.ascent.left.limit l.order l.class-index l.rows.items;
}
