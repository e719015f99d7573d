use Rattle.std.proofs.Common.{inr}
use Rattle.cli.proofs.ImageReplayLemmas.{has_replayed, of_replay}
use Rattle.cli.proofs.run.replay_image.Goals as goal

pub returns-in-Ok-clause-refused : goal.returns-in-Ok-clause-refused
returns-in-Ok-clause-refused g c = λ refused.
    inr (of_replay (g.F.Files.holds c.args.files.now) c.args.words.now (g.W.Write.contents c.args.out.now)
    (g.W.Write.contents c.tell_replay-status.new.out) c.in-Ok.replay c.in-Ok.ensures.replayed
    (c.tell_replay-status.ensures.refused refused))

pub returns-in-Ok-clause-done : goal.returns-in-Ok-clause-done
returns-in-Ok-clause-done g c = λ over. (
  c.replayed.ensures.same,
  has_replayed (g.F.Files.holds c.args.files.now) c.args.words.now (g.W.Write.contents c.args.out.now)
      (g.W.Write.contents c.tell_replay-status.new.out) c.in-Ok.replay c.tell_replay-status.result
      c.in-Ok.ensures.replayed (c.tell_replay-status.ensures.done over),
)
