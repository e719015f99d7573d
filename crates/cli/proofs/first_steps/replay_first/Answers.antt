use Rattle.std.proofs.Common.{ℕ, List, subst}
use Rattle.cli.specs.ImageRuns.{IsSomeTextOf}
use Rattle.cli.specs.ImageBuilds.{IsReadAsBuilt}
use Rattle.cli.proofs.ImageReplayLemmas.{replayed_first}
use Rattle.cli.proofs.ReadBackLemmas.{read_as_built}
use Rattle.cli.proofs.first_steps.replay_first.Goals as goal

pub returns-in-Ok : goal.returns-in-Ok
returns-in-Ok c =
    let bytes = c.args.bytes.items in
    let text : IsSomeTextOf bytes c.in-Ok.image =
    subst (λ (z : List ℕ). IsSomeTextOf z c.in-Ok.image) c.as_slice.ensures.value c.in-Ok.ensures.text in
    let built : IsReadAsBuilt bytes c.in-Ok.image =
    subst (λ (z : List ℕ). IsReadAsBuilt z c.in-Ok.image) c.as_slice.ensures.value
    (read_as_built c.as_slice.result.now c.in-Ok.image c.in-Ok.ensures.same) in
    replayed_first c.args.steps bytes c.args.entries.now c.args.text.now c.in-Ok.image c.replay_first_of_text.result
    text built (rw c.program.ensures at c.classes-classes.ensures.fits) c.replay_first_of_text.ensures.image
    c.replay_first_of_text.ensures.journal c.replay_first_of_text.ensures.shown
