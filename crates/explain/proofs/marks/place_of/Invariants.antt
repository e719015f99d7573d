use Rattle.std.proofs.Common.{ℕ, ◌<◌}
use Rattle.explain.specs.steps.Callers.{StandsAt}
use Rattle.explain.proofs.marks.place_of.Given as goal

abbrev pub invariant-loop-place : goal.invariant-loop-place
invariant-loop-place l =
    (p : ℕ) → p < l.place → ¬ StandsAt l.uses.methods l.search.seen.items p l.method
