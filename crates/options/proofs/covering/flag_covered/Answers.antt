use Rattle.std.proofs.Common.{get_or}
use Rattle.std.proofs.lemmas.Option.{slice_get-get_or}
use Rattle.options.proofs.CoveringLemmas.{flagged_more, flagged_same, flagged_all}
use Rattle.options.proofs.covering.flag_covered.Goals.{then-place-end, else-place-end}
use Rattle.options.proofs.covering.flag_covered.Goals as goal

pub loop-place-preserved : goal.loop-place-preserved
loop-place-preserved c = elim c.if-place-end.branch [
  | then-place-end w ↦
      rw w.flags-is
      (flagged_more c.args.names.now c.args.ends.now c.args.flags.now c.loop-place.flags c.loop-place.place
      c.loop-place.end c.max-end.result c.loop-place.invariant c.max-end.ensures
      (get_or c.args.names.now c.loop-place.place w.index-names-place.result)
      (slice_get-get_or c.args.names.now c.loop-place.place w.index-names-place.result c.loop-place-test.true)
      w.flag.new.flags w.if-place-end.true w.flag.ensures)
  | else-place-end w ↦
      rw w.flags-is
      (flagged_same c.args.names.now c.args.ends.now c.args.flags.now c.loop-place.flags c.loop-place.place
      c.loop-place.end c.max-end.result c.loop-place.invariant c.max-end.ensures c.loop-place-test.true
      w.if-place-end.false)
]

pub returns : goal.returns
returns c =
    flagged_all c.args.names.now c.args.ends.now c.args.flags.now c.loop-place.flags c.loop-place.place
    c.loop-place.end c.loop-place-test.false c.loop-place.invariant
