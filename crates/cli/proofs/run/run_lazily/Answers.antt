use Rattle.std.proofs.Common.{inr}
use Rattle.init_engine.specs.Turns.{world_of}
use Rattle.cli.proofs.BeginsLemmas.{has_run_lazily, of_lazy_run}
use Rattle.cli.proofs.run.run_lazily.Goals as goal

pub returns-in-Ok-clause-refused : goal.returns-in-Ok-clause-refused
returns-in-Ok-clause-refused g c = λ refused.
    inr (of_lazy_run (g.F.Files.holds c.args.files.now) (world_of c.in-Ok.field-0.world)
    (g.W.Write.contents c.args.out.now) (g.W.Write.contents c.run_from-status.new.out) c.args.words.now
    c.in-Ok.field-0.program c.in-Ok.ensures.begun (c.run_from-status.ensures.refused refused))

pub returns-in-Ok-clause-done : goal.returns-in-Ok-clause-done
returns-in-Ok-clause-done g c = λ over. (
  c.begin.ensures.same,
  has_run_lazily (g.F.Files.holds c.args.files.now) (world_of c.in-Ok.field-0.world)
      (g.W.Write.contents c.args.out.now) (g.W.Write.contents c.run_from-status.new.out) c.args.words.now
      c.in-Ok.field-0.program c.run_from-status.result c.in-Ok.ensures.begun (c.run_from-status.ensures.done over),
)
