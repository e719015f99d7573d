use Rattle.initializer_analysis.proofs.ReasonsLemmas.{forced_first, cycle_last}
use Rattle.initializer_analysis.proofs.reasons.add_reasons.Goals as goal

pub returns : goal.returns
returns c =
    let P = c.args.program.now in
    let forced = c.args.forced.now in
    let first =
    forced_first P forced c.args.reasons.now c.add_forced.new.reasons c.requires.none c.add_forced.ensures in
    cycle_last P forced c.args.on_cycle.now c.add_marks.new.reasons c.add_cycles.new.reasons c.requires.on_cycle
    c.add_cycles.ensures (c.in_ok-add_marks.ensures forced first)
