use Rattle.std.proofs.Common.{◌≤◌, ◌<◌, ◌-◌, length, arith}
use Rattle.std.proofs.lemmas.Option.{slice_get-get_or}
use Rattle.options.proofs.ChainLemmas.{above_at_first, above_more, above_all}
use Rattle.options.proofs.chains.flag_above.Goals as goal

pub loop-place-init : goal.loop-place-init
loop-place-init c =
    let order = c.parents_first-order.result.now in
    above_at_first c.args.family.now order c.args.flags.now (length order) c.requires c.parents_first-order.ensures
    (omega arith)

pub loop-place-preserved : goal.loop-place-preserved
loop-place-preserved c =
    let order = c.parents_first-order.result.now in
    let within : c.loop-place.place - 1 < length order = omega arith in
    above_more c.args.family.now order c.args.flags.now c.loop-place.flags c.flag_above_one.new.flags
    (c.loop-place.place - 1) c.loop-place.place _ (omega arith) c.parents_first-order.ensures
    (slice_get-get_or order (c.loop-place.place - 1) 0 within) c.loop-place.invariant c.flag_above_one.ensures

pub returns-clause-flags : goal.returns-clause-flags
returns-clause-flags c =
    above_all c.args.family.now c.parents_first-order.result.now c.args.flags.now c.loop-place.flags c.loop-place.place
    (omega arith) c.loop-place.invariant
