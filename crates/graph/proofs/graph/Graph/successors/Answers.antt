use Rattle.std.proofs.Common.{◌≡◌, ℕ, ◌<◌, List, length, sym, subst, arith}
use Rattle.std.specs.List.{All}
use Rattle.std.proofs.lemmas.Grind.{common_steps}
use Rattle.graph.specs.Rows.{Rows, successors_of, IsClosed}
use Rattle.graph.proofs.RowsLemmas.{successors_within}
use Rattle.graph.proofs.graph.Graph.successors.Goals as goal

pub returns-in-Some-clause-within : goal.returns-in-Some-clause-within
returns-in-Some-clause-within c =
    let graph = c.args.self.now in
    let is : c.as_slice.result.now ≡ successors_of graph c.args.vertex = grind (arith, common_steps) in
    subst (λ (row : List ℕ). All (λ b. b < length graph) row) (sym is)
    (successors_within graph c.args.vertex (subst (λ (g : Rows). IsClosed g) c.self.view_is c.self.invariant))
