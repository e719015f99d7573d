use Rattle.std.proofs.Common.{ℕ, ◌<◌, length, slice_index}
use Rattle.std.proofs.lemmas.List.Elements.{All-get_or}
use Rattle.initializer_analysis.specs.steps.Dependence.{vertex_of}
use Rattle.initializer_analysis.proofs.CyclesLemmas.{adds_member}
use Rattle.initializer_analysis.proofs.cycles.add_member.Goals as goal

pub returns : goal.returns
returns c =
    let numbers = c.args.components.now.numbers in
    let vertex : ℕ = vertex_of c.args.uses.now c.args.class in
    let table = c.args.table.now in
    let low = All-get_or (λ n. n < length table) numbers vertex 0 c.requires.vertex c.requires.numbers in
    rw (c.number-number.ensures, c.class_vertex.ensures)
    (adds_member (slice_index numbers vertex) c.args.class table c.add-more.result low
    (rw (c.number-number.ensures, c.class_vertex.ensures) at c.add-more.ensures))
