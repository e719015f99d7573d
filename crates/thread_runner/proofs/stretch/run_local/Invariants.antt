use Rattle.std.proofs.Common.{◌≡◌, ◌-◌, ◌≤◌, Some}
use Rattle.machine.specs.Effects.{going}
use Rattle.thread_runner.specs.Local.{local_steps}
use Rattle.thread_runner.proofs.stretch.run_local.Given as goal

abbrev pub invariant-loop-count : goal.invariant-loop-count
invariant-loop-count g l = record {
  steps : local_steps l.program l.done l.count (going l.fn.frames) ≡ Some (going l.frames);
  thread : l.frames.thread ≡ l.fn.frames.thread;
  most : l.count ≤ 1023;
}

abbrev pub decreases-loop-count : goal.decreases-loop-count
decreases-loop-count g l = 1023 - l.count
