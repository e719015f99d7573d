use Rattle.std.proofs.Common.{take}
use Rattle.semantics.specs.Worlds.{Run}
use Rattle.machine.specs.Linked.{program_of}
use Rattle.method_lowering.specs.steps.StepTables.{KeepsSteps}
use Rattle.init_engine.specs.Schedules.{schedule_of}
use Rattle.init_engine.specs.Turns.{world_of}
use Rattle.thread_runner.proofs.replay.take_runs.Given as goal

abbrev pub invariant-loop-place : goal.invariant-loop-place
invariant-loop-place l = record {
  keeps : KeepsSteps l.program l.table;
  run : Run (program_of l.program) (world_of l.fn.world) (schedule_of (take l.place l.runs)) (world_of l.world);
}
