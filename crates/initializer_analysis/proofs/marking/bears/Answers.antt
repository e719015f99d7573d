use Rattle.std.proofs.Common.{false, refl, arith}
use Rattle.initializer_analysis.proofs.MarkingLemmas.{bears_by_label, bears_none, start_small}
use Rattle.initializer_analysis.proofs.marking.bears.Goals as goal

pub returns-in-Some : goal.returns-in-Some
returns-in-Some c =
    bears_by_label c.args.program.now c.args.uses.now c.args.class c.args.mark c.requires.uses c.args.table.now
    c.in-Some.vertex c.ignored_label.result c.but-label.result c.is_some.result c.requires.table c.in-Some.ensures
    c.ignored_label.ensures c.but-label.ensures c.is_some.ensures

pub returns-in-None : goal.returns-in-None
returns-in-None c =
    bears_none c.args.program.now c.args.uses.now c.args.class c.args.mark c.requires.uses false c.in-None.ensures
    refl

pub bounds-table-vertex : goal.bounds-table-vertex
bounds-table-vertex c =
    (let small = start_small c.args.program.now c.args.uses.now c.args.class c.in-Some.vertex c.requires.uses
    c.in-Some.ensures in
    omega (arith, c.requires.table.len))
