use Rattle.std.proofs.Common.{◌∙◌}
use Rattle.cli.proofs.ImageReplayLemmas.{first_of, replay_of}
use Rattle.cli.proofs.image_replay.replayed.Goals as goal

pub returns-in-Some-clause-replayed : goal.returns-in-Some-clause-replayed
returns-in-Some-clause-replayed g c =
    let holds = g.F.Files.holds c.args.files.now in
    first_of holds c.args.words.now c.in_ok-image.image.items c.as_slice-text.result.now c.as_slice-names.result.now
    c.in_ok-image.ensures.bytes (rw (c.as_slice-text.ensures.value, ← c.get.ensures.same) c.in_ok-journal.ensures.bytes)
    (c.as_slice-names.ensures.value ∙ c.in_ok-entries.ensures) c.in-Some.steps c.replay_first.result c.in-Some.is
    c.replay_first.ensures

pub returns-clause-replayed : goal.returns-clause-replayed
returns-clause-replayed g c =
    let holds = g.F.Files.holds c.args.files.now in
    replay_of holds c.args.words.now c.in_ok-image.image.items c.as_slice-text.result.now c.as_slice-names.result.now
    c.in_ok-image.ensures.bytes (rw (c.as_slice-text.ensures.value, ← c.get.ensures.same) c.in_ok-journal.ensures.bytes)
    (c.as_slice-names.ensures.value ∙ c.in_ok-entries.ensures) c.replay_image.result c.in-None.is
    c.replay_image.ensures.replayed
