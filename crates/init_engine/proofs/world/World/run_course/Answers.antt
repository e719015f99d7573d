use Rattle.std.proofs.Common.{rules}
use Rattle.init_engine.proofs.CourseRuns.{world_runs}
use Rattle.init_engine.proofs.world.World.run_course.Goals as goal

pub returns-clause-run : goal.returns-clause-run
returns-clause-run c =
    rw (← c.self.view_is)
    (world_runs c.args.program.now _ c.self.inside.threads.items c.self.inside.shared c.run_thread.new.shared
    c.self.inside.printed c.args.thread _ c.run_thread.new.thread (search rules) c.index_mut-running.ensures.value
    c.self.invariant.0 c.in_ok-count.ensures.run)
