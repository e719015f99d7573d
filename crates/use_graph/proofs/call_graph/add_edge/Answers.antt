use Rattle.std.proofs.Common.{◌≡◌, sym, subst}
use Rattle.std.specs.List.{Contains}
use Rattle.graph.specs.Rows.{Rows, successors_of}
use Rattle.use_graph.specs.steps.Growing.{Extends}
use Rattle.use_graph.proofs.EdgesLemmas.{edge_added, edge_there}
use Rattle.use_graph.proofs.call_graph.add_edge.Goals as goal

pub returns-clause-extends : goal.returns-clause-extends
returns-clause-extends c =
    subst (λ (g : Rows). Extends c.args.graph.now g c.args.from (λ t. t ≡ c.args.to)) (sym c.in_ok-add.ensures.ok)
    (edge_added c.args.graph.now c.args.from c.args.to c.requires.from)

pub returns-clause-there : goal.returns-clause-there
returns-clause-there c =
    subst (λ (g : Rows). Contains (successors_of g c.args.from) c.args.to) (sym c.in_ok-add.ensures.ok)
    (edge_there c.args.graph.now c.args.from c.args.to c.requires.from)
