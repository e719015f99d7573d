-- What a function that reads answers, and where what it has not read begins.
use Rattle.std.specs.Prelude.{◌≡◌, ℕ, ◌-◌, List, length, Result, Ok, Err}
use Rattle.classfile.specs.declared.fault.ClassFault.{ClassFault}
use Rattle.classfile.specs.declared.fault.ClassFault.TheVariants as faults

-- What a function returned, seen by view, is what reading gives, unless memory ran out.
abbrev pub Fails : {Y : Type 0} → ClassFault → Result Y ClassFault → Type 0
Fails faults.Memory read = Unit {0}
Fails e read = read ≡ Err e

abbrev pub Gives : {X Y : Type 0} → (X → Y) → Result X ClassFault → Result Y ClassFault → Type 0
Gives view (Ok x) read = read ≡ Ok (view x)
Gives view (Err e) read = Fails e read

-- where what is left begins
abbrev pub offset : ℕ → List ℕ → ℕ
offset total bytes = total - length bytes
