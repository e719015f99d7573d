-- Numbers that matches hold.
use Rattle.std.proofs.Common.{◌≡◌, ℕ, List, Option, Some, None, Result, Ok, refl, subst, sym}
use Rattle.std.specs.Str.Parse.{ParsesUnsigned, ExplainsUnsignedError, HasUnsignedDigitsIfOk}
use Rattle.std.specs.declared.num.ParseIntError.{ParseIntError}
use Rattle.clap.proofs.WalkLemmas.{one_text-rows}
use Rattle.clap.specs.Matches.{ReadsOne, one_text}
use Rattle.clap.specs.Walk.{rows_of}
use Rattle.clap.specs.declared.parser.matches.Found.{Found}
use Rattle.command_line.specs.Requests.{HoldsBits}
use Rattle.command_line.specs.steps.Faults.{IsWhatHolds}

abbrev Gives : ℕ → List ℕ → Result ℕ ParseIntError → Type 0
Gives bits text r =
    ParsesUnsigned bits 10 text r × ExplainsUnsignedError 10 text r × HasUnsignedDigitsIfOk text r

abbrev IsRead : ℕ → Option (List ℕ) → ℕ → Type 0
IsRead bits held n =
    (text : List ℕ) × (held ≡ Some text) × ParsesUnsigned {E = ParseIntError} bits 10 text (Ok n)

read : (bits : ℕ) (held : Option (List ℕ)) (r : Option ℕ) → (held ≡ None → r ≡ None)
    → ((t : List ℕ) → held ≡ Some t → ReadsOne (Gives bits) t r) → IsWhatHolds (IsRead bits held) r
read bits None None none value = λ n h. absurd (let clash = h.1 in cc)
read bits None (Some n) none value = absurd (let clash : Some n ≡ None = none refl in cc)
read bits (Some t) (Some n) none value = (t, refl, (value t refl).0)
read bits (Some t) None none value = λ n h.
    let is : t ≡ h.0 = let same = h.1 in cc in
    let got : ParsesUnsigned {E = ParseIntError} bits 10 t (Ok n) =
    subst (λ (text : List ℕ). ParsesUnsigned {E = ParseIntError} bits 10 text (Ok n)) (sym is) h.2 in
    (value t refl).1.0 got.0

-- a number that is read is the one that is held, and where none is read none is
pub number_read : (bits : ℕ) (found : Found) (id : List ℕ) (r : Option ℕ) → (one_text found id ≡ None → r ≡ None)
    → ((t : List ℕ) → one_text found id ≡ Some t → ReadsOne (Gives bits) t r)
    → IsWhatHolds (HoldsBits bits (rows_of found) id) r
number_read bits found id r none value =
    subst (λ (held : Option (List ℕ)). IsWhatHolds (IsRead bits held) r) (one_text-rows found id)
    (read bits (one_text found id) r none value)
