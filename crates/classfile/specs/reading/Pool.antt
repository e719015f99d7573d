-- Reading a constant pool.
use Rattle.std.specs.Prelude.{ℕ, List, length, Result, Ok, Err, ◌==◌, if◌then◌else◌}
use Rattle.std.specs.Int.{w16}
use Rattle.classfile.specs.declared.fault.ClassFault.{ClassFault}
use Rattle.classfile.specs.declared.fault.ClassFault.TheVariants as faults
use Rattle.classfile.specs.declared.constant.Constant.{Constant}
use Rattle.classfile.specs.reading.Numbers.{◌>>=◌, number_at}
use Rattle.classfile.specs.Gives.{offset}
use Rattle.classfile.specs.reading.Constants.{constants_at}
use Rattle.classfile.specs.reading.Checks.{checks}

-- the constants of a count, checked against one another
abbrev pub checked_at : ℕ → ℕ → List ℕ → Result (List Constant × List ℕ) ClassFault
checked_at count total bytes = constants_at count total bytes >>= λ pool. checks pool.0 total (length bytes) 0 pool.0
    >>= λ _. Ok pool

-- a count of 0 is no index below it
unfoldable pub pool_at : ℕ → List ℕ → Result (List Constant × List ℕ) ClassFault
pool_at total bytes =
    number_at w16 total bytes >>= λ count. if count.0 == 0 then Err (faults.Index (offset total bytes))
    else checked_at count.0 total count.1
