use Rattle.std.proofs.Common.{◌≡◌, ◌-◌, length}
use Rattle.machine.specs.Linked.{program_of}
use Rattle.init_engine.specs.Turns.{world_of}
use Rattle.init_engine.specs.Schedules.{schedule_of}
use Rattle.init_engine.specs.steps.Slices.{AsksFurther, IsPlace, Spends}
use Rattle.init_engine.proofs.rounds.round.Given as goal

abbrev pub invariant-asking : goal.invariant-asking
invariant-asking l = record {
  asks : AsksFurther (program_of l.program) l.fn.from l.place (world_of l.fn.world) (world_of l.world)
      (schedule_of l.fn.schedule) (schedule_of l.schedule);
  place : IsPlace (length l.fn.world.threads) l.place;
  left : l.place.left ≡ l.fn.from.left;
  spends : Spends l.fn.from l.place (schedule_of l.fn.schedule) (schedule_of l.schedule) l.fn.world.printed
      l.world.printed l.fn.allowance l.allowance;
  threads : length l.world.threads ≡ length l.fn.world.threads;
}

abbrev pub decreases-asking : goal.decreases-asking
decreases-asking l = length l.fn.world.threads - l.place.asked
