use Rattle.initializer_analysis.proofs.RowsBelowLemmas.{below_none, calls_few}
use Rattle.initializer_analysis.proofs.dependence.add_all.Goals as goal

pub add_vertices-requires-clause-below : goal.add_vertices-requires-clause-below
add_vertices-requires-clause-below c =
    below_none c.args.program.now c.args.uses.now c.args.graph.now c.requires.none

pub add_vertices-requires-clause-few : goal.add_vertices-requires-clause-few
add_vertices-requires-clause-few c = calls_few c.args.program.now c.args.uses.now c.requires.uses

pub add_all_uses-requires-clause-uses : goal.add_all_uses-requires-clause-uses
add_all_uses-requires-clause-uses c = c.requires.uses

pub add_all_uses-requires-clause-below : goal.add_all_uses-requires-clause-below
add_all_uses-requires-clause-below c = c.in_ok-add_vertices.ensures

pub returns : goal.returns
returns c = c.add_all_uses.ensures
