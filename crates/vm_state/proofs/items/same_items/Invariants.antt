use Rattle.std.proofs.Common.{◌≡◌, take}
use Rattle.vm_state.proofs.items.same_items.Given as goal

abbrev pub invariant-loop-place : goal.invariant-loop-place
invariant-loop-place g l = take l.place l.left.items ≡ take l.place l.right.items
