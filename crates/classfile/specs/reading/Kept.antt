-- The bytes that a run keeps, in place or on the heap.
use Rattle.std.specs.Prelude.{ℕ, List, take, ◌≤◌}
use Rattle.classfile.specs.declared.bytes.Kept.{Kept}
use Rattle.classfile.specs.declared.bytes.Kept.TheVariants as kept

abbrev pub kept_bytes : Kept → List ℕ
kept_bytes (kept.Short length bytes) = take length bytes
kept_bytes (kept.Long bytes) = bytes.items

-- no more are in place than there is room for
abbrev pub IsWithin : Kept → Type 0
IsWithin (kept.Short length bytes) = length ≤ 24
IsWithin (kept.Long bytes) = Unit {0}
