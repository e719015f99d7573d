use Rattle.std.proofs.Common.{length}
use Rattle.initializer_analysis.proofs.CyclesLemmas.{are_on_cycles}
use Rattle.initializer_analysis.proofs.RowsBelowLemmas.{vertices_of}
use Rattle.initializer_analysis.proofs.cycles.cycles.Goals as goal

pub members-requires-clause-vertices : goal.members-requires-clause-vertices
members-requires-clause-vertices c =
    vertices_of c.args.program.now c.args.uses.now c.args.graph.now c.given_count-limit.result
    (length c.args.components.now.numbers) c.requires.dependences.uses c.requires.dependences.graph
    c.given_count-limit.ensures.value c.requires.dependences.components.len

pub cycles_by-requires-clause-vertices : goal.cycles_by-requires-clause-vertices
cycles_by-requires-clause-vertices c =
    vertices_of c.args.program.now c.args.uses.now c.args.graph.now c.given_count-limit.result
    (length c.args.components.now.numbers) c.requires.dependences.uses c.requires.dependences.graph
    c.given_count-limit.ensures.value c.requires.dependences.components.len

pub returns : goal.returns
returns c =
    are_on_cycles c.args.program.now c.args.uses.now c.args.graph.now c.args.components.now
    c.in_ok-on_cycle.on_cycle.items c.requires.dependences.uses c.requires.dependences.graph
    c.requires.dependences.components
    (rw c.given_count-limit.ensures.value at c.in_ok-on_cycle.ensures)
