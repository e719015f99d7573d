use Rattle.std.proofs.Common.{◌≡◌, ◌-◌, ◌≤◌, length, replicate}
use Rattle.semantics.specs.Worlds.{Run}
use Rattle.machine.specs.Linked.{program_of}
use Rattle.method_lowering.specs.steps.StepTables.{KeepsSteps}
use Rattle.init_engine.specs.Turns.{world_of}
use Rattle.init_engine.specs.steps.Slices.{PrintsBy}
use Rattle.init_engine.proofs.rounds.run_alone.Given as goal

abbrev pub invariant-ahead : goal.invariant-ahead
invariant-ahead l = record {
  run : Run (program_of l.program) (world_of l.fn.world) (replicate (l.most - l.left) l.thread) (world_of l.world);
  within : l.left ≤ l.most;
  threads : length l.world.threads ≡ length l.fn.world.threads;
  keeps : KeepsSteps l.program l.table;
  prints : PrintsBy (l.most - l.left) l.fn.world.printed l.world.printed l.fn.text l.text;
}

abbrev pub decreases-ahead : goal.decreases-ahead
decreases-ahead l = l.left
