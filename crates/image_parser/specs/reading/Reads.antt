-- What functions answer that read into the machine's values: what they hold, under the program's strings, is what
-- reading tells.
use Rattle.std.specs.Prelude.{◌≡◌, ℕ, List, Result, Ok, Err}
use Rattle.program.specs.Tables.{Tables}
use Rattle.image_parser.specs.declared.fault.FlagsFault.{FlagsFault}
use Rattle.image_parser.specs.declared.fault.RegionFault.{RegionFault}
use Rattle.image_parser.specs.FlagFaults.{FailsIn}
use Rattle.image_parser.specs.reading.Held.{AddsStrings}
use Rattle.image_parser.specs.reading.Results.{Fails}

-- Reading gives what is held. The program got strings, but none where those that it had hold what is told.
pub record IsHeld {T H Y E : Type 0} (Holds : List (List ℕ) → T → H → Type 0) (P Q : Tables) (held : H) (answer : T → Y)
    (read : Result Y E) : Type 0 where
  pub told : T
  pub is : read ≡ Ok (answer told)
  pub holds : Holds Q.strings told held
  pub adds : AddsStrings P Q
  pub same : (other : H) → Holds P.strings told other → Q ≡ P

-- so is what a function returned, seen by view, with the bytes after it, unless it failed as reading does
abbrev pub Reads : {X T H : Type 0} → (List (List ℕ) → T → H → Type 0) → (X → H × List ℕ) → Tables → Tables
    → Result X RegionFault → Result (T × List ℕ) RegionFault → Type 0
Reads Holds view P Q (Ok x) read = IsHeld Holds P Q (view x).0 (λ told. (told, (view x).1)) read
Reads Holds view P Q (Err e) read = Fails e read × (Q.family ≡ P.family)

-- the same, where no bytes are answered
abbrev pub Makes : {T H : Type 0} → (List (List ℕ) → T → H → Type 0) → Tables → Tables → Result H RegionFault
    → Result T RegionFault → Type 0
Makes Holds P Q (Ok held) read = IsHeld Holds P Q held (λ told. told) read
Makes Holds P Q (Err e) read = Fails e read × (Q.family ≡ P.family)

-- the same among all classes
abbrev pub ReadsIn : {X T H : Type 0} → (List (List ℕ) → T → H → Type 0) → (X → H × List ℕ) → Tables → Tables
    → Result X FlagsFault → Result (T × List ℕ) FlagsFault → Type 0
ReadsIn Holds view P Q (Ok x) read = IsHeld Holds P Q (view x).0 (λ told. (told, (view x).1)) read
ReadsIn Holds view P Q (Err e) read = FailsIn e read × (Q.family ≡ P.family)
