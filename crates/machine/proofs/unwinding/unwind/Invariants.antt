use Rattle.std.proofs.Common.{◌≡◌, ◌∷◌, length}
use Rattle.semantics.specs.Moves.{unwound}
use Rattle.machine.specs.Linked.{program_of}
use Rattle.machine.proofs.unwinding.unwind.Given as goal

abbrev pub invariant-loop-place : goal.invariant-loop-place
invariant-loop-place l =
    unwound (program_of l.program) l.exception l.class (l.frame ∷ l.callers)
    ≡ unwound (program_of l.program) l.exception l.class (l.fn.frame ∷ l.fn.callers)

abbrev pub decreases-loop-place : goal.decreases-loop-place
decreases-loop-place l = length l.callers
