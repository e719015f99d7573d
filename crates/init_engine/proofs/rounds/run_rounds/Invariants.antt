use Rattle.std.proofs.Common.{◌≡◌, length}
use Rattle.machine.specs.Linked.{program_of}
use Rattle.method_lowering.specs.steps.StepTables.{KeepsSteps}
use Rattle.init_engine.specs.Turns.{world_of}
use Rattle.init_engine.specs.Schedules.{schedule_of}
use Rattle.init_engine.specs.steps.Slices.{GoesOn, IsPlace, Spends}
use Rattle.init_engine.proofs.rounds.run_rounds.Given as goal

abbrev pub invariant-rounds : goal.invariant-rounds
invariant-rounds l = record {
  turns : GoesOn (program_of l.program) (length l.fn.world.threads) l.fn.from l.place (world_of l.fn.world)
      (world_of l.world) (schedule_of l.fn.schedule) (schedule_of l.schedule);
  place : IsPlace (length l.fn.world.threads) l.place;
  spends : Spends l.fn.from l.place (schedule_of l.fn.schedule) (schedule_of l.schedule) l.fn.world.printed
      l.world.printed l.fn.allowance l.allowance;
  threads : length l.world.threads ≡ length l.fn.world.threads;
  keeps : KeepsSteps l.program l.table;
}

abbrev pub decreases-rounds : goal.decreases-rounds
decreases-rounds l = l.place.left
