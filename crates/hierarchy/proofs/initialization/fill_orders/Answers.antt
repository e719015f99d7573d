use Rattle.std.proofs.Common.{ℕ, ◌<◌, sym, subst, ◌∙◌, arith}
use Rattle.std.specs.List.{All}
use Rattle.hierarchy.specs.Initialization.{IsInitializationOrder}
use Rattle.hierarchy.proofs.SearchRowLemmas.{rows_whole, filled_next}
use Rattle.hierarchy.proofs.initialization.fill_orders.Goals as goal

pub loop-class-preserved : goal.loop-class-preserved
loop-class-preserved c =
    let family = c.args.family.now in
    let rows = c.loop-class.rows.items in
    record {
      entered = c.in_ok-row.ensures.room.entered ∙ c.loop-class.invariant.entered;
      filled = filled_next (IsInitializationOrder family) family _ _ c.parents_first-order.result.now
          c.loop-class.class-index rows c.in_ok-row.row c.parents_first-order.ensures (omega arith)
          c.in_ok-row.ensures.room.left c.loop-class.invariant.filled
          (subst (λ (n : ℕ). All (λ d. d < n) c.in_ok-row.row) (sym c.loop-class.invariant.filled.len)
          c.in_ok-row.ensures.within)
          c.in_ok-row.ensures.order;
    }

pub returns-clause-orders : goal.returns-clause-orders
returns-clause-orders c =
    rows_whole (IsInitializationOrder c.args.family.now) c.args.family.now c.parents_first-order.result.now
    c.loop-class.rows.items
    c.loop-class.class-index (omega arith) c.parents_first-order.ensures c.loop-class.invariant.filled.lists
