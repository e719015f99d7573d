-- Reading the flags of classes in turn, as a loop does.
use Rattle.std.proofs.Common.{◌≡◌, ℕ, suc, ◌-◌, ◌+◌, ◌≤◌, ◌<◌, List, [], ◌∷◌, ◌++◌, Result, Ok, Err, refl, sym, ap, ◌∙◌}
use Rattle.std.proofs.Common.{arith}
use Rattle.classfile.specs.reading.Numbers.{◌>>=◌}
use Rattle.image_parser.specs.declared.fault.RegionFault.{RegionFault}
use Rattle.image_parser.specs.declared.fault.RegionFault.TheVariants as faults
use Rattle.image_parser.specs.declared.fault.FlagsFault.{FlagsFault}
use Rattle.image_parser.specs.declared.fault.FlagsFault.TheVariants as flags
use Rattle.image_parser.specs.Inside.{inside}
use Rattle.image_parser.specs.FlagFaults.{numbers, FailsIn}
use Rattle.image_parser.specs.reading.Results.{Fails, each_at}
use Rattle.image_parser.specs.reading.Flags.{inside_at}

-- a fault of a class's flag is that of the class
pub inside_fails : {X : Type 0} (c : ℕ) (e : RegionFault) (r : Result X RegionFault) → Fails e r
    → FailsIn (inside c e) (inside_at c r)
inside_fails c faults.Memory r h = tt
inside_fails c faults.Truncated r h = rw h refl
inside_fails c faults.Shape r h = rw h refl

failed : {A B : Type 0} (e : FlagsFault) (r : Result A FlagsFault) (f : A → Result B FlagsFault)
    (goal : Result B FlagsFault) → r ≡ Err e → (r >>= f) ≡ goal → goal ≡ Err e
failed {A} {B} e r f goal h one = sym one ∙ ap (λ (z : Result A FlagsFault). z >>= f) h

fails_bind : {A B : Type 0} (e : FlagsFault) (r : Result A FlagsFault) (f : A → Result B FlagsFault)
    (goal : Result B FlagsFault) → FailsIn e r → (r >>= f) ≡ goal → FailsIn e goal
fails_bind flags.Memory r f goal h one = tt
fails_bind flags.Truncated r f goal h one = failed flags.Truncated r f goal h one
fails_bind (flags.Shape c) r f goal h one = failed (flags.Shape c) r f goal h one

next : (n i : ℕ) → i < n → numbers i (n - i) ≡ i ∷ numbers (i + 1) (n - (i + 1))
next n i lt = let k : n - i ≡ suc (n - (i + 1)) = omega arith in rw k refl

pub next_flag : {X : Type 0} (read : ℕ → List ℕ → Result (X × List ℕ) FlagsFault) {n i : ℕ} (items : List X)
    (bytes : List ℕ) {x : X} {after : List ℕ} {goal : Result (List X × List ℕ) FlagsFault} → i < n
    → read i bytes ≡ Ok (x, after) → each_at read (numbers i (n - i)) items bytes ≡ goal
    → each_at read (numbers (i + 1) (n - (i + 1))) (items ++ x ∷ []) after ≡ goal
unfolding each_at
next_flag read {n} {i} items bytes {x} {after} {goal} lt h so_far =
    let one : each_at read (numbers i (n - i)) items bytes
    ≡ each_at read (numbers (i + 1) (n - (i + 1))) (items ++ x ∷ []) after = rw (next n i lt, h) refl in
    sym one ∙ so_far

pub flag_fails : {X : Type 0} (read : ℕ → List ℕ → Result (X × List ℕ) FlagsFault) (e : FlagsFault) {n i : ℕ}
    (items : List X) (bytes : List ℕ) {goal : Result (List X × List ℕ) FlagsFault} → i < n → FailsIn e (read i bytes)
    → each_at read (numbers i (n - i)) items bytes ≡ goal → FailsIn e goal
unfolding each_at
flag_fails read e {n} {i} items bytes {goal} lt h so_far =
    let one : each_at read (i ∷ numbers (i + 1) (n - (i + 1))) items bytes ≡ goal = rw (next n i lt) at so_far in
    fails_bind e (read i bytes) (λ x. each_at read (numbers (i + 1) (n - (i + 1))) (items ++ x.0 ∷ []) x.1) goal h one

pub all_flags : {X : Type 0} (read : ℕ → List ℕ → Result (X × List ℕ) FlagsFault) {n i : ℕ} (items : List X)
    (bytes : List ℕ) {goal : Result (List X × List ℕ) FlagsFault} → n ≤ i
    → each_at read (numbers i (n - i)) items bytes ≡ goal → goal ≡ Ok (items, bytes)
unfolding each_at
all_flags read {n} {i} items bytes {goal} le so_far =
    let k : n - i ≡ 0 = omega arith in
    let one : each_at read (numbers i (n - i)) items bytes ≡ Ok (items, bytes) = rw k refl in
    sym so_far ∙ one
