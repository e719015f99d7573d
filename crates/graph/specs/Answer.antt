-- What an arrangement of a graph says.
use Rattle.graph.specs.Rows.{Rows}
use Rattle.graph.specs.Reaches.{IsLeastOnCycle, IsAcyclic}
use Rattle.graph.specs.Order.{IsTopological}
use Rattle.graph.specs.declared.arrangement.Arrangement.{Arrangement}
use Rattle.graph.specs.declared.arrangement.Arrangement.TheVariants.{Order, Cycle}

-- an order where there is no cycle, and else the least vertex on one
abbrev pub Arranges : Rows → Arrangement → Type 0
Arranges graph (Order order) = IsTopological graph order.items × IsAcyclic graph
Arranges graph (Cycle vertex) = IsLeastOnCycle graph vertex
