use Rattle.std.proofs.Common.{◌∙◌, ℕ, List, subst}
use Rattle.init_engine.specs.Turns.{world_of}
use Rattle.cli.specs.ImageBuilds.{IsReadAsBuilt}
use Rattle.cli.specs.ImageRuns.{IsSomeTextOf}
use Rattle.cli.proofs.BeginsLemmas.{start_from_bytes}
use Rattle.cli.proofs.ReadBackLemmas.{read_as_built}
use Rattle.cli.proofs.image_run.start_by_several.Goals as goal

pub returns-in-Ok : goal.returns-in-Ok
returns-in-Ok g c =
    let text : IsSomeTextOf c.args.bytes.items c.in-Ok.image =
    subst (λ (z : List ℕ). IsSomeTextOf z c.in-Ok.image) c.as_slice.ensures.value c.in-Ok.ensures.text in
    let built : IsReadAsBuilt c.args.bytes.items c.in-Ok.image =
    subst (λ (z : List ℕ). IsReadAsBuilt z c.in-Ok.image) c.as_slice.ensures.value
    (read_as_built c.as_slice.result.now c.in-Ok.image c.in-Ok.ensures.same) in
    start_from_bytes (λ start. start.program) (λ start. world_of start.world) c.args.bytes.items c.args.list.now
    c.in-Ok.image c.as_slice-in-Ok.result.now c.started.result
    (c.as_slice-in-Ok.ensures.value ∙ c.in_ok-entries.ensures) text built
    c.started.ensures
