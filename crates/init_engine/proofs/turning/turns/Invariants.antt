use Rattle.std.proofs.Common.{◌≡◌, length}
use Rattle.machine.specs.Linked.{program_of}
use Rattle.init_engine.specs.Turns.{world_of}
use Rattle.init_engine.specs.Turnings.{CanGoOn, IsUnderWay, to_go}
use Rattle.init_engine.proofs.turning.turns.Given as goal

abbrev pub invariant-slices : goal.invariant-slices
invariant-slices l = record {
  turns : IsUnderWay (program_of l.program) (world_of l.fn.world) l.limit l.turning;
  ready : CanGoOn l.program l.turning;
  threads : length l.turning.world.threads ≡ length l.fn.world.threads;
}

abbrev pub decreases-slices : goal.decreases-slices
decreases-slices l = to_go l.turning
