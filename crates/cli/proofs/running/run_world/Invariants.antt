use Rattle.std.proofs.Common.{◌≡◌, ◌≤◌, length, take}
use Rattle.std.specs.Io.KnownBytes.{Appends}
use Rattle.machine.specs.Linked.{program_of}
use Rattle.init_engine.specs.Turns.{world_of}
use Rattle.init_engine.specs.Turnings.{CanGoOn, IsUnderWay, to_go}
use Rattle.vm_state.specs.Output.{text_of}
use Rattle.cli.proofs.running.run_world.Given as goal

abbrev pub invariant-slices : goal.invariant-slices
invariant-slices g l = record {
  turns : IsUnderWay (program_of l.program) (world_of l.fn.world) l.limit l.turning;
  ready : CanGoOn l.program l.turning;
  threads : length l.turning.world.threads ≡ length l.fn.world.threads;
  within : l.sent ≤ length l.turning.world.printed;
  sent : Appends (g.W.Write.contents l.fn.out) (g.W.Write.contents l.out)
      (text_of (take l.sent l.turning.world.printed));
}

abbrev pub decreases-slices : goal.decreases-slices
decreases-slices g l = to_go l.turning
