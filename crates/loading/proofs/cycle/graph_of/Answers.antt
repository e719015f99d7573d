use Rattle.std.proofs.Common.{length, refl}
use Rattle.std.proofs.lemmas.Option.{slice_get_read}
use Rattle.loading.proofs.LinkingGraphLemmas.{rows_more, all_rows, numbers_within}
use Rattle.loading.proofs.cycle.graph_of.Goals as goal

pub add_parents-requires-clause-within : goal.add_parents-requires-clause-within
add_parents-requires-clause-within c =
    let classes = c.args.classes.now in
    let at-x = slice_get_read classes (length classes) c.loop-number.number c.index-classes-number.result refl
    c.loop-number-test.true c.index-classes-number.is in
    numbers_within classes c.loop-number.graph c.loop-number.number c.index-classes-number.result c.requires at-x
    c.loop-number.invariant.count

pub loop-number-preserved : goal.loop-number-preserved
loop-number-preserved c =
    let classes = c.args.classes.now in
    let at-x = slice_get_read classes (length classes) c.loop-number.number c.index-classes-number.result refl
    c.loop-number-test.true c.index-classes-number.is in
    rows_more classes c.loop-number.number c.index-classes-number.result c.loop-number.graph c.add_parents.new.graph
    at-x c.loop-number.invariant
    c.add_parents.ensures.len c.in_ok-add_parents.ensures.own c.add_parents.ensures.others

pub returns : goal.returns
returns c = all_rows c.args.classes.now c.loop-number.number c.loop-number.graph c.loop-number-test.false
    c.loop-number.invariant
