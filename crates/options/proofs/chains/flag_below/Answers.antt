use Rattle.std.proofs.lemmas.Option.{slice_get-get_or}
use Rattle.options.proofs.ChainLemmas.{below_at_first, below_more, below_all}
use Rattle.options.proofs.chains.flag_below.Goals as goal

pub loop-class-init : goal.loop-class-init
loop-class-init c = below_at_first c.args.family.now c.parents_first-class-items.result.now c.args.flags.now

pub loop-class-preserved : goal.loop-class-preserved
loop-class-preserved c =
    let order = c.parents_first-class-items.result.now in
    below_more c.args.family.now order c.args.flags.now c.loop-class.flags c.flag_below_one.new.flags
    c.loop-class.class-index _ c.parents_first-class-items.ensures
    (slice_get-get_or order c.loop-class.class-index 0 c.loop-class-test.true) c.loop-class.invariant
    c.flag_below_one.ensures

pub returns-clause-flags : goal.returns-clause-flags
returns-clause-flags c =
    below_all c.args.family.now c.parents_first-class-items.result.now c.args.flags.now c.loop-class.flags
    c.loop-class.class-index c.requires c.parents_first-class-items.ensures c.loop-class-test.false
    c.loop-class.invariant
