use Rattle.std.proofs.Common.{ℕ, Option, ◌<◌, take}
use Rattle.loading.specs.Families.{Family}
use Rattle.hierarchy.specs.steps.DeclarationBits.{AreKnown, Knows}
use Rattle.hierarchy.proofs.ways.above.Given as goal

abbrev pub invariant-loop-parent : goal.invariant-loop-parent
invariant-loop-parent l = (family : Family) (declares : ℕ → Option ℕ) (d k n : ℕ) → n < 64
    → AreKnown family declares d k n l.parents l.rows
    → Knows family declares (take l.parent-index l.parents) d k n l.known
