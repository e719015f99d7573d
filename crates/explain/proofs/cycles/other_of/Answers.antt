use Rattle.std.proofs.Common.{◌≡◌, ◌∙◌, ℕ, ap, slice_index, arith}
use Rattle.initializer_analysis.specs.steps.Dependence.{vertex_of}
use Rattle.explain.proofs.CyclesLemmas.{number_low}
use Rattle.explain.proofs.cycles.other_of.Goals as goal

pub returns-else-first-class : goal.returns-else-first-class
returns-else-first-class c =
    let uses = c.args.uses.now in
    let numbers = c.args.components.now.numbers in
    let number : ℕ = c.number-number.result in
    let is : number ≡ slice_index numbers (vertex_of uses c.args.class) =
    c.number-number.ensures ∙ ap (λ (v : ℕ). slice_index numbers v) c.class_vertex.ensures in
    let low = number_low uses numbers c.args.class number
    (omega (arith, c.requires.class, c.requires.vertices.vertices)) c.requires.below is in
    let (small, same) = (c.requires.have.each number low).first_is c.in-Some.first c.in-Some.is in
    ((small, same ∙ is), c.if-first-class.false)
