use Rattle.std.proofs.Common.{◌≡◌, ◌∙◌, ℕ, List, Vec, Global, length, sym, subst}
use Rattle.std.proofs.lemmas.Result.{IfOk-weaker}
use Rattle.initializer_analysis.specs.steps.Heights.{AreHeights}
use Rattle.initializer_analysis.proofs.RaisedLemmas.{heights_of}
use Rattle.initializer_analysis.proofs.VertexTablesLemmas.{read_at, read_length}
use Rattle.initializer_analysis.proofs.flagged_heights.heights.Goals as goal

pub returns-clause-len : goal.returns-clause-len
returns-clause-len c =
    let numbers = c.args.components.now.numbers in
    let table = c.as_slice.result.now in
    IfOk-weaker c.by_vertex.result
    (λ (heights : Vec ℕ Global). (d : ℕ) → heights.items ≡ read_at table d numbers)
    (λ (heights : Vec ℕ Global). length heights.items ≡ length c.args.graph.now)
    (λ heights is. read_length table heights.items numbers 0 is ∙ c.requires.components.len) c.by_vertex.ensures

pub returns-clause-heights : goal.returns-clause-heights
returns-clause-heights c =
    let graph = c.args.graph.now in
    let parts = c.args.components.now in
    let flagged = c.args.flagged.now in
    let table = c.in_ok-table.table.items in
    let raised = c.in_ok-table.ensures.raised in
    IfOk-weaker c.by_vertex.result
    (λ (heights : Vec ℕ Global). (d : ℕ) → heights.items ≡ read_at table d parts.numbers)
    (λ (heights : Vec ℕ Global). AreHeights graph flagged heights.items)
    (λ heights is. subst (λ (xs : List ℕ). AreHeights graph flagged xs) (sym (is 0))
    (heights_of graph parts flagged raised.0 table c.requires.components c.requires.flagged c.in_ok-table.ensures.len
    raised.1 raised.2))
    (rw c.as_slice.ensures.value at c.by_vertex.ensures)
