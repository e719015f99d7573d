use Rattle.std.proofs.Common.{◌≡◌, ◌≤◌, ◌-◌, length, replicate}
use Rattle.semantics.specs.Worlds.{Run}
use Rattle.machine.specs.Linked.{program_of}
use Rattle.method_lowering.specs.steps.StepTables.{KeepsSteps}
use Rattle.init_engine.specs.Turns.{world_of}
use Rattle.thread_runner.proofs.replay.take_steps.Given as goal

abbrev pub invariant-slices : goal.invariant-slices
invariant-slices l = record {
  keeps : KeepsSteps l.program l.table;
  threads : length l.world.threads ≡ length l.fn.world.threads;
  few : l.left ≤ l.steps;
  run : Run (program_of l.program) (world_of l.fn.world) (replicate (l.steps - l.left) l.thread) (world_of l.world);
}

abbrev pub decreases-slices : goal.decreases-slices
decreases-slices l = l.left
