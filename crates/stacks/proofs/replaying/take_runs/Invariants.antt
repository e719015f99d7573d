use Rattle.std.proofs.Common.{◌≡◌, length, take}
use Rattle.semantics.specs.Worlds.{Run}
use Rattle.machine.specs.Linked.{program_of}
use Rattle.method_lowering.specs.steps.StepTables.{KeepsSteps}
use Rattle.init_engine.specs.Schedules.{schedule_of}
use Rattle.init_engine.specs.Turns.{world_of}
use Rattle.stacks.specs.steps.Replaying.{AreKept}
use Rattle.stacks.proofs.replaying.take_runs.Given as goal

abbrev pub invariant-loop-place : goal.invariant-loop-place
invariant-loop-place l = record {
  run : Run (program_of l.program) (world_of l.fn.world) (schedule_of (take l.place l.runs)) (world_of l.world);
  kept : AreKept (program_of l.program) (world_of l.fn.world) l.runs l.last l.before.items l.place;
  count : length l.before.items ≡ length l.world.threads;
  threads : length l.world.threads ≡ length l.fn.world.threads;
  keeps : KeepsSteps l.program l.table;
}
