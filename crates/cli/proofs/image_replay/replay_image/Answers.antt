use Rattle.std.proofs.Common.{ℕ, List, subst}
use Rattle.cli.specs.ImageRuns.{IsSomeTextOf}
use Rattle.cli.specs.ImageBuilds.{IsReadAsBuilt}
use Rattle.cli.proofs.ImageReplayLemmas.{no_image, replayed_text}
use Rattle.cli.proofs.ReadBackLemmas.{read_as_built}
use Rattle.cli.proofs.image_replay.replay_image.Goals as goal

pub returns-in-Err-clause-refusal : goal.returns-in-Err-clause-refusal
returns-in-Err-clause-refusal c =
    no_image c.args.bytes.items c.args.entries.now c.args.text.now c.in-Err.fault c.of_image.result
    (rw c.as_slice.ensures.value at c.in-Err.ensures.fault) c.of_image.ensures.memory c.of_image.ensures.other

pub returns-in-Ok-clause-replayed : goal.returns-in-Ok-clause-replayed
returns-in-Ok-clause-replayed c =
    let bytes = c.args.bytes.items in
    let text : IsSomeTextOf bytes c.in-Ok.image =
    subst (λ (z : List ℕ). IsSomeTextOf z c.in-Ok.image) c.as_slice.ensures.value c.in-Ok.ensures.text in
    let built : IsReadAsBuilt bytes c.in-Ok.image =
    subst (λ (z : List ℕ). IsReadAsBuilt z c.in-Ok.image) c.as_slice.ensures.value
    (read_as_built c.as_slice.result.now c.in-Ok.image c.in-Ok.ensures.same) in
    replayed_text bytes c.args.entries.now c.args.text.now c.in-Ok.image c.replay_text.result text built
    (rw c.program.ensures at c.classes-classes.ensures.fits) c.replay_text.ensures.image
    c.replay_text.ensures.journal c.replay_text.ensures.shown
