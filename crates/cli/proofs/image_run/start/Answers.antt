use Rattle.init_engine.specs.Turns.{world_of}
use Rattle.cli.proofs.BeginsLemmas.{start_from_file}
use Rattle.cli.proofs.image_run.start.Goals as goal

pub returns-in-Ok-clause-begun : goal.returns-in-Ok-clause-begun
returns-in-Ok-clause-begun g c =
    start_from_file (λ start. start.program) (λ start. world_of start.world) (g.F.Files.holds c.args.files.now)
    c.args.words.now.image.now c.args.words.now.entries.now c.in-Ok.bytes.items c.start_by_several.result
    c.in-Ok.ensures.bytes c.start_by_several.ensures
