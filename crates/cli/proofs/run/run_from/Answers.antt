use Rattle.init_engine.specs.Turns.{world_of}
use Rattle.cli.proofs.RunningLemmas.{ended_by_turns, run_cut_at_end}
use Rattle.cli.proofs.run.run_from.Goals as goal

pub returns-in-Ok-clause-refused : goal.returns-in-Ok-clause-refused
returns-in-Ok-clause-refused g c = λ refused.
    run_cut_at_end c.args.program.now (world_of c.args.world) c.args.words.now.limit (g.W.Write.contents c.args.out.now)
    (g.W.Write.contents c.run_world.new.out) c.in-Ok.ran c.in-Ok.ensures.ran

pub returns-in-Ok-clause-done : goal.returns-in-Ok-clause-done
returns-in-Ok-clause-done g c = λ over.
    ended_by_turns c.args.program.now (world_of c.args.world) c.args.words.now.limit (g.W.Write.contents c.args.out.now)
    (g.W.Write.contents c.run_world.new.out) c.in-Ok.ran c.tell_turns.result c.in-Ok.ensures.ran
    (c.tell_turns.ensures.done over)

pub returns-in-Err-Memory-clause-refused : goal.returns-in-Err-Memory-clause-refused
returns-in-Err-Memory-clause-refused g c = λ refused. rw c.in-Err-Memory.field-0-is at c.in-Err-Memory.ensures.cut
