use Rattle.cli.proofs.ImageReplayLemmas.{no_journal, no_replay}
use Rattle.cli.proofs.image_replay.replay_text.Goals as goal

pub returns-in-Err-clause-refusal : goal.returns-in-Err-clause-refusal
returns-in-Err-clause-refusal c bytes program of =
    no_journal bytes c.args.entries.now c.args.text.now c.args.image c.in-Err.fault c.of_journal.result of
    c.in-Err.ensures.err c.of_journal.ensures

pub returns-in-Err-replay-clause-refusal : goal.returns-in-Err-replay-clause-refusal
returns-in-Err-replay-clause-refusal c bytes program of =
    no_replay bytes c.args.entries.now c.args.text.now c.args.image c.in-Ok.journal c.in-Err-replay.fault
    c.of_replay.result program of c.in-Ok.ensures.ok c.in-Err-replay.ensures.err c.of_replay.ensures
