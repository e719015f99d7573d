-- What reading functions answer: a value and the bytes after it, or a fault.
use Rattle.std.specs.Prelude.{◌≡◌, ℕ, zero, suc, List, [], ◌∷◌, ◌++◌, length, take, drop, Result, Ok, Err, nat_lt}
use Rattle.std.specs.Prelude.{if◌then◌else◌}
use Rattle.std.specs.Int.{Width, byte_len, from_be_bytes}
use Rattle.classfile.specs.reading.Numbers.{◌>>=◌}
use Rattle.image_parser.specs.declared.fault.RegionFault.{RegionFault}
use Rattle.image_parser.specs.declared.fault.RegionFault.TheVariants as faults

-- What a function returned, seen by view, is what reading gives, unless memory ran out.
abbrev pub Fails : {Y : Type 0} → RegionFault → Result Y RegionFault → Type 0
Fails faults.Memory read = Unit {0}
Fails e read = read ≡ Err e

abbrev pub Gives : {X Y : Type 0} → (X → Y) → Result X RegionFault → Result Y RegionFault → Type 0
Gives view (Ok x) read = read ≡ Ok (view x)
Gives view (Err e) read = Fails e read

abbrev pub number_at : Width → List ℕ → Result (ℕ × List ℕ) RegionFault
number_at w bytes = if nat_lt (length bytes) (byte_len w) then Err faults.Truncated
    else Ok (from_be_bytes w (take (byte_len w) bytes), drop (byte_len w) bytes)

abbrev pub run_at : ℕ → List ℕ → Result (List ℕ × List ℕ) RegionFault
run_at count bytes = if nat_lt (length bytes) count then Err faults.Truncated
    else Ok (take count bytes, drop count bytes)

-- so many parts, each by what the one before leads to, after those that were read
unfoldable pub chain_at : {S X E : Type 0} → (S → List ℕ → Result (X × List ℕ) E) → (X → S) → ℕ → S → List X → List ℕ
    → Result (List X × List ℕ) E
chain_at read next zero s items bytes = Ok (items, bytes)
chain_at read next (suc n) s items bytes =
    read s bytes >>= λ x. chain_at read next n (next x.0) (items ++ x.0 ∷ []) x.1

-- some parts, each by what is wanted there, after those that were read
unfoldable pub each_at : {K X E : Type 0} → (K → List ℕ → Result (X × List ℕ) E) → List K → List X → List ℕ
    → Result (List X × List ℕ) E
each_at read [] items bytes = Ok (items, bytes)
each_at read (k ∷ ks) items bytes = read k bytes >>= λ x. each_at read ks (items ++ x.0 ∷ []) x.1
