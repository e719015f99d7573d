use Rattle.std.proofs.Common.{◌≡◌, sym, subst}
use Rattle.graph.specs.Rows.{Rows}
use Rattle.initializer_analysis.specs.steps.Dependence.{AddsFrom}
use Rattle.initializer_analysis.proofs.AddsFromLemmas.{edge_adds}
use Rattle.initializer_analysis.proofs.dependence.add_edge.Goals as goal

pub returns : goal.returns
returns c =
    subst (λ (g : Rows). AddsFrom c.args.graph.now g c.args.from (λ b. c.args.to ≡ b)) (sym c.in_ok-add.ensures.ok)
    (edge_adds c.args.graph.now c.args.from c.args.to c.requires.from)
