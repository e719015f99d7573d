use Rattle.init_engine.specs.Turns.{world_of}
use Rattle.thread_runner.proofs.run.run_threads.Given as goal

abbrev pub ghosts-run_session-O-Origin : goal.ghosts-run_session-O-Origin
ghosts-run_session-O-Origin g a = record { program = a.program.now; start = world_of a.world }

abbrev pub ghosts-run_session-O-Session : goal.ghosts-run_session-O-Session
ghosts-run_session-O-Session g a = record {
  before = g.S.Sink.got a.sink;
  failed = g.S.Sink.failures a.sink;
  limit = a.limit;
}
