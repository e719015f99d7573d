use Rattle.std.proofs.Common.{◌≡◌, ◌∙◌, ℕ, None, ap, slice_index, slice_index_or}
use Rattle.initializer_analysis.specs.steps.Dependence.{vertex_of}
use Rattle.explain.proofs.CyclesLemmas.{have_first, have_second, have_both, none_of, number_low, some_of}
use Rattle.explain.proofs.cycles.add_member.Goals as goal

pub returns-then-is_none : goal.returns-then-is_none
returns-then-is_none c =
    let uses = c.args.uses.now in
    let numbers = c.args.components.now.numbers in
    let number : ℕ = c.number-number.result in
    let is : number ≡ slice_index numbers (vertex_of uses c.args.class) =
    c.number-number.ensures ∙ ap (λ (v : ℕ). slice_index numbers v) c.class_vertex.ensures in
    have_first uses numbers c.args.class number c.args.firsts.now c.args.seconds.now c.requires.have
    (number_low uses numbers c.args.class number c.requires.vertex c.requires.below is) is
    (none_of (slice_index_or c.args.firsts.now number None) c.if-is_none.ensures)

pub returns-then-is_none-2 : goal.returns-then-is_none-2
returns-then-is_none-2 c =
    let uses = c.args.uses.now in
    let numbers = c.args.components.now.numbers in
    let number : ℕ = c.number-number.result in
    let is : number ≡ slice_index numbers (vertex_of uses c.args.class) =
    c.number-number.ensures ∙ ap (λ (v : ℕ). slice_index numbers v) c.class_vertex.ensures in
    let (first, some) = some_of (slice_index_or c.args.firsts.now number None) c.if-is_none.ensures in
    have_second uses numbers c.args.class number c.args.firsts.now c.args.seconds.now c.requires.have
    (number_low uses numbers c.args.class number c.requires.vertex c.requires.below is) is first some
    (none_of (slice_index_or c.args.seconds.now number None) c.if-is_none-2.ensures)

pub returns-else-is_none-2 : goal.returns-else-is_none-2
returns-else-is_none-2 c =
    let uses = c.args.uses.now in
    let numbers = c.args.components.now.numbers in
    let number : ℕ = c.number-number.result in
    let is : number ≡ slice_index numbers (vertex_of uses c.args.class) =
    c.number-number.ensures ∙ ap (λ (v : ℕ). slice_index numbers v) c.class_vertex.ensures in
    let (first, some) = some_of (slice_index_or c.args.firsts.now number None) c.if-is_none.ensures in
    let (second, also) = some_of (slice_index_or c.args.seconds.now number None) c.if-is_none-2.ensures in
    have_both uses numbers c.args.class number c.args.firsts.now c.args.seconds.now c.requires.have
    (number_low uses numbers c.args.class number c.requires.vertex c.requires.below is) is first second some also
