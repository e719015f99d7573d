use Rattle.graph.proofs.RowsLemmas.{one_empty_row_more}
use Rattle.graph.proofs.graph.add_rows.Goals as goal

pub loop-preserved : goal.loop-preserved
loop-preserved c =
    one_empty_row_more c.loop.rows.items c.push.new.self.items c.new.result c.loop.counter c.in_ok-push.ensures.items
    c.loop.invariant c.new.ensures.items
