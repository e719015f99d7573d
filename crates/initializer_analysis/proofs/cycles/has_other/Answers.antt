use Rattle.std.proofs.Common.{ℕ, ◌<◌, length, slice_index, slice_index_or, arith}
use Rattle.std.proofs.lemmas.List.Elements.{All-get_or}
use Rattle.initializer_analysis.specs.steps.LeastReached.{no_labels}
use Rattle.initializer_analysis.specs.steps.Dependence.{vertex_of}
use Rattle.initializer_analysis.proofs.CyclesLemmas.{other_found}
use Rattle.initializer_analysis.proofs.cycles.has_other.Goals as goal

pub returns : goal.returns
returns c =
    let uses = c.args.uses.now in
    let numbers = c.args.components.now.numbers in
    let number : ℕ = slice_index numbers (vertex_of uses c.args.class) in
    let table = c.args.table.now in
    let low = All-get_or (λ n. n < length table) numbers (vertex_of uses c.args.class) 0
    (omega (arith, c.requires.class, c.requires.vertices.vertices))
    c.requires.numbers in
    rw c.is_some.ensures
    (other_found uses numbers c.args.limit c.args.class (slice_index_or table number no_labels) c.first_but.result
    (c.requires.table number low) (rw (c.number-number.ensures, c.class_vertex.ensures) at c.first_but.ensures))
