use Rattle.std.proofs.Common.{ℕ, ◌<◌}
use Rattle.program.specs.steps.Frames.{IsWholeAt}
use Rattle.program.proofs.implementing.are_whole.Given as goal

abbrev pub invariant-loop-number : goal.invariant-loop-number
invariant-loop-number l = (j : ℕ) → j < l.number → IsWholeAt l.family l.classes j
