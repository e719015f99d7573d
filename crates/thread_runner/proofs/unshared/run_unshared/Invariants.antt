use Rattle.std.proofs.Common.{◌≡◌, ◌+◌, ◌-◌, ◌≤◌, List, Bool, Some}
use Rattle.machine.specs.Effects.{going}
use Rattle.thread_runner.specs.Fronts.{AreMembers}
use Rattle.thread_runner.specs.Unshared.{unshared_steps}
use Rattle.thread_runner.proofs.AskedLemmas.{unasked}
use Rattle.thread_runner.proofs.unshared.run_unshared.Given as goal

abbrev pub invariant-loop-count : goal.invariant-loop-count
invariant-loop-count g l = record {
  members : AreMembers l.asked.items l.done;
  wide : (more : List Bool) → AreMembers l.asked.items more
      → unshared_steps l.program more l.count (going l.fn.frames) ≡ Some (going l.frames);
  thread : l.frames.thread ≡ l.fn.frames.thread;
  most : l.count ≤ l.most;
}

abbrev pub decreases-loop-count : goal.decreases-loop-count
decreases-loop-count g l = l.most - l.count + unasked l.done 0 l.asked.items
