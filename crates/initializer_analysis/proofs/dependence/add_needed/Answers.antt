use Rattle.std.proofs.Common.{sym}
use Rattle.initializer_analysis.proofs.RowsBelowLemmas.{needed_vertex, no_needed_vertex}
use Rattle.initializer_analysis.proofs.dependence.add_needed.Goals as goal

pub returns-in_ok-add_classes-in-Some : goal.returns-in_ok-add_classes-in-Some
returns-in_ok-add_classes-in-Some c =
    needed_vertex c.args.program.now c.args.uses.now c.args.vertex c.args.graph.now c.add_classes.new.graph
    c.in-Some.body.now c.deref.result.now (sym c.in-Some.ensures) c.deref.ensures.value
    c.in_ok-add_classes-in-Some.ensures

pub returns-in-None : goal.returns-in-None
returns-in-None c =
    no_needed_vertex c.args.program.now c.args.uses.now c.args.vertex c.args.graph.now (sym c.in-None.ensures)
