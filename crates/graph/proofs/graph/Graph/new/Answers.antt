use Rattle.std.proofs.Common.{sym, subst}
use Rattle.graph.specs.Rows.{Rows, IsClosed}
use Rattle.graph.proofs.RowsLemmas.{closed_empty}
use Rattle.graph.proofs.graph.Graph.new.Goals as goal

pub invariant_of-result : goal.invariant_of-result
invariant_of-result c = subst (λ (graph : Rows). IsClosed graph) (sym c.in_ok-add_rows.ensures)
    (closed_empty c.args.count)
