use Rattle.std.proofs.Common.{get_or, ◌∙◌}
use Rattle.stacks.proofs.ReplayingLemmas.{noted, noted_length}
use Rattle.stacks.proofs.replaying.last_runs.Goals as goal

pub loop-place-preserved : goal.loop-place-preserved
loop-place-preserved c = record {
  last = noted c.args.runs.now c.loop-place.last.items c.note_run.new.last.items c.loop-place.place (0, 0)
      c.loop-place-test.true c.note_run.ensures.there c.note_run.ensures.past c.loop-place.invariant.last;
  count = noted_length c.loop-place.last.items c.note_run.new.last.items c.loop-place.place
      (get_or c.args.runs.now c.loop-place.place (0, 0)).0 c.note_run.ensures.there c.note_run.ensures.past
      ∙ c.loop-place.invariant.count;
}
