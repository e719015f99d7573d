use Rattle.std.proofs.Common.{◌≡◌, length}
use Rattle.stacks.proofs.replaying.no_frames.Given as goal

abbrev pub invariant-loop-place : goal.invariant-loop-place
invariant-loop-place l = length l.before.items ≡ l.place
