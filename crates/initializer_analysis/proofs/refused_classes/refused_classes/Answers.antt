use Rattle.std.proofs.Common.{◌∙◌, length, ap}
use Rattle.initializer_analysis.proofs.JudgingLemmas.{are_refused}
use Rattle.initializer_analysis.proofs.RowsBelowLemmas.{vertices_of}
use Rattle.initializer_analysis.proofs.refused_classes.refused_classes.Goals as goal

pub labelled_classes-requires : goal.labelled_classes-requires
labelled_classes-requires c =
    vertices_of c.args.program.now c.args.uses.now c.args.graph.now c.given_count-limit.result
    (length c.as_slice-2.result.now) c.requires.dependences.uses c.requires.dependences.graph
    c.given_count-limit.ensures.value (ap length c.as_slice-2.ensures.value ∙ c.in_ok-least.ensures.len)

pub returns : goal.returns
returns c =
    let count = c.given_count-limit.ensures.value in
    are_refused c.args.program.now c.args.uses.now c.args.graph.now c.requires.dependences.uses
    c.requires.dependences.graph c.args.reasons.now c.in_ok-own.own.items c.in_ok-least.least.items
    c.in_ok-refused.refused.items c.requires.reasons
    (rw count at c.in_ok-own.ensures) (rw c.as_slice.ensures.value at c.in_ok-least.ensures.least)
    (rw (count, c.as_slice-2.ensures.value) at c.in_ok-refused.ensures)
