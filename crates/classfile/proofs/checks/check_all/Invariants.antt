use Rattle.std.proofs.Common.{◌≡◌, drop}
use Rattle.classfile.specs.reading.Checks.{checks}
use Rattle.classfile.proofs.checks.check_all.Given as goal

abbrev pub invariant-loop-constant : goal.invariant-loop-constant
invariant-loop-constant l = checks l.pool l.total l.left l.index (drop l.constant-index l.pool)
    ≡ checks l.pool l.total l.fn.left 0 l.pool
