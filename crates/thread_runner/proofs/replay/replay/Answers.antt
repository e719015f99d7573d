use Rattle.std.proofs.Common.{◌≡◌, ◌⊎◌, ℕ, List, subst}
use Rattle.semantics.specs.Worlds.{Run}
use Rattle.machine.specs.Linked.{program_of}
use Rattle.init_engine.specs.Schedules.{schedule_of}
use Rattle.init_engine.specs.Turns.{world_of}
use Rattle.thread_runner.specs.declared.replay.ReplayFault.TheVariants.{Memory}
use Rattle.thread_runner.specs.Replays.{ReplayFails}
use Rattle.thread_runner.proofs.replay.replay.Goals as goal

pub returns-in-Ok-into_seen-clause-ok : goal.returns-in-Ok-into_seen-clause-ok
returns-in-Ok-into_seen-clause-ok c = record {
  last = world_of c.take_runs.new.world;
  run =
      subst (λ (xs : List (ℕ × ℕ)). Run (program_of c.args.program.now) (world_of c.args.start) (schedule_of xs)
      (world_of c.take_runs.new.world))
      c.runs.ensures.is c.in-Ok.ensures.ok;
  observed = c.in-Ok-into_seen.ensures;
}

pub returns-in-Err-clause-err : goal.returns-in-Err-clause-err
returns-in-Err-clause-err c =
    subst (λ (xs : List (ℕ × ℕ)). (c.in-Err.fault ≡ Memory)
    ⊎ ReplayFails (program_of c.args.program.now) (world_of c.args.start) xs c.in-Err.fault)
    c.runs.ensures.is c.in-Err.ensures.err
