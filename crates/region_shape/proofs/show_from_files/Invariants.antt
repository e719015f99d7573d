use Rattle.std.proofs.Common.{ℕ, ◌<◌}
use Rattle.region_shape.specs.Laws.{IsFromFile}
use Rattle.region_shape.proofs.show_from_files.Given as goal

abbrev pub invariant-loop-class : goal.invariant-loop-class
invariant-loop-class l = (c : ℕ) → c < l.class → IsFromFile l.program c
