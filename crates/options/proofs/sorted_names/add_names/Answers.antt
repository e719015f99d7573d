use Rattle.options.proofs.SortedNamesLemmas.{one_more_name}
use Rattle.options.proofs.MatchedLemmas.{class_read}
use Rattle.options.proofs.sorted_names.add_names.Goals as goal

pub loop-number-preserved : goal.loop-number-preserved
loop-number-preserved c =
    one_more_name c.args.classes.now c.loop-number.number c.index-classes-number.result
    (class_read c.args.classes.now c.loop-number.number c.index-classes-number.result c.loop-number-test.true
    c.index-classes-number.is) c.loop-number.names.items c.add_name.new.names.items c.loop-number.invariant
    c.in_ok-add_name.ensures
