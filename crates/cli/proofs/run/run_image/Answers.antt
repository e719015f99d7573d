use Rattle.std.proofs.Common.{inr}
use Rattle.init_engine.specs.Turns.{world_of}
use Rattle.cli.proofs.BeginsLemmas.{has_run_image, of_image_run}
use Rattle.cli.proofs.LeftLemmas.{image_run_left}
use Rattle.cli.proofs.run.run_image.Goals as goal

pub returns-in-Ok-clause-refused : goal.returns-in-Ok-clause-refused
returns-in-Ok-clause-refused g c = λ refused.
    inr (of_image_run (g.F.Files.holds c.args.files.now) (world_of c.in-Ok.start.world)
    (g.W.Write.contents c.args.out) (g.W.Write.contents c.run_and_tell.result.2) c.args.words.now
    c.in-Ok.start.program c.in-Ok.ensures.begun (c.run_and_tell.ensures.refused refused))

pub returns-in-Ok-clause-done : goal.returns-in-Ok-clause-done
returns-in-Ok-clause-done g c = λ over.
    let before = g.W.Write.contents c.args.out in
    let after = g.W.Write.contents c.run_and_tell.result.2 in
    let new = g.F.Files.holds c.run_and_tell.new.files in
    has_run_image (g.F.Files.holds c.args.files.now) (world_of c.in-Ok.start.world) before after new
    c.args.words.now c.in-Ok.start.program c.run_and_tell.result.0 c.in-Ok.ensures.begun (rw c.start.ensures.same at
    (c.run_and_tell.ensures.done over))

pub returns-in-Ok-clause-left : goal.returns-in-Ok-clause-left
returns-in-Ok-clause-left g c =
    image_run_left (g.F.Files.holds c.args.files.now) (g.F.Files.holds c.start.new.files)
    (g.F.Files.holds c.run_and_tell.new.files) c.args.words.now c.in-Ok.start.program (world_of c.in-Ok.start.world)
    c.run_and_tell.result.0 c.start.ensures.same c.in-Ok.ensures.begun c.run_and_tell.ensures.left
