-- A reader again and again, which may look at what it read before.
use Rattle.std.specs.Prelude.{ℕ, zero, suc, List, [], ◌∷◌, ◌++◌, Result, Ok}
use Rattle.std.specs.Int.{w16}
use Rattle.classfile.specs.declared.fault.ClassFault.{ClassFault}
use Rattle.classfile.specs.reading.Numbers.{◌>>=◌, number_at}

unfoldable pub repeat_at : {X : Type 0} → (List X → List ℕ → Result (X × List ℕ) ClassFault) → ℕ → List X → List ℕ
    → Result (List X
    × List ℕ) ClassFault
repeat_at read zero items bytes = Ok (items, bytes)
repeat_at read (suc n) items bytes = read items bytes >>= λ x. repeat_at read n (items ++ x.0 ∷ []) x.1

-- a count of 16 bits, and so many items
abbrev pub table_at : {X : Type 0} → (List X → List ℕ → Result (X × List ℕ) ClassFault) → ℕ → List ℕ
    → Result (List X × List ℕ) ClassFault
table_at read total bytes = number_at w16 total bytes >>= λ count. repeat_at read count.0 [] count.1
