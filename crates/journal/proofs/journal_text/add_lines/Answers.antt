use Rattle.journal.proofs.ReadingLemmas.{written_more}
use Rattle.journal.proofs.journal_text.add_lines.Goals as goal

pub loop-place-preserved : goal.loop-place-preserved
loop-place-preserved c =
    written_more c.args.runs.now c.loop-place.place (0, 0) c.loop-place.text.items c.add_text.new.text.items
    c.loop-place-test.true c.loop-place.invariant c.in_ok-add_text.ensures
