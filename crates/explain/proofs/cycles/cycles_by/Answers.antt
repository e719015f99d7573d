use Rattle.std.proofs.Common.{length}
use Rattle.initializer_analysis.proofs.RowsBelowLemmas.{vertices_of}
use Rattle.explain.proofs.CyclesLemmas.{are_cycles}
use Rattle.explain.proofs.cycles.cycles_by.Goals as goal

pub others_of-requires-clause-vertices : goal.others_of-requires-clause-vertices
others_of-requires-clause-vertices c =
    vertices_of c.args.program.now c.args.uses.now c.args.graph.now c.given_count.result
    (length c.in_ok-components.components.numbers) c.requires.uses c.requires.graph c.given_count.ensures.value
    c.in_ok-components.ensures.len

pub returns : goal.returns
returns c =
    are_cycles c.args.program.now c.args.uses.now c.args.graph.now c.in_ok-components.components
    c.in_ok-others.others.items c.requires.uses c.requires.graph c.in_ok-components.ensures
    (rw c.given_count.ensures.value at c.in_ok-others.ensures)
