use Rattle.std.proofs.Common.{◌≡◌, length}
use Rattle.stacks.specs.steps.Replaying.{AreLastBelow}
use Rattle.stacks.proofs.replaying.last_runs.Given as goal

abbrev pub invariant-loop-place : goal.invariant-loop-place
invariant-loop-place l = record {
  last : AreLastBelow l.place l.runs l.last.items;
  count : length l.last.items ≡ l.count;
}
