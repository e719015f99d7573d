use Rattle.init_engine.specs.Turns.{world_of}
use Rattle.cli.specs.declared.lazy.LazyStart.{LazyStart}
use Rattle.cli.specs.Runs.{texts_of}
use Rattle.cli.proofs.BeginsLemmas.{begun, program_kept}
use Rattle.cli.proofs.lazy.begin.Goals as goal

pub returns-in-Ok-clause-begun : goal.returns-in-Ok-clause-begun
returns-in-Ok-clause-begun g c =
    begun (λ (s : LazyStart). world_of s.world) (g.F.Files.holds c.args.files.now) c.args.words.now (λ s. s.program)
    (texts_of c.in_ok-texts.texts.items) c.started.result
    (rw c.as_slice.ensures.value at c.in_ok-texts.ensures.texts)
    (program_kept (λ (s : LazyStart). s.program) _ c.in-Ok.program c.started.result c.in-Ok.ensures.program
    c.started.ensures.program)
    (rw (← c.in_ok-entries.ensures, ← c.as_slice-in-Ok.ensures.value) c.started.ensures.start)
