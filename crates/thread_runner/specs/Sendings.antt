-- What was printed, and what of it has gone out.
use Rattle.std.specs.Prelude.{◌≡◌, ℕ, ◌+◌, ◌≤◌, ◌++◌, List, Option, drop, length, take}
use Rattle.std.specs.Io.KnownBytes.{Appends}
use Rattle.vm_state.specs.Output.{Print, text_of}

-- how many bytes the first prints have, and so many of those behind them
abbrev pub sent_of : List Print → ℕ → ℕ → ℕ
sent_of printed prints bytes = length (text_of (take prints printed)) + bytes

-- so many bytes are those of the first prints, each of them whole
abbrev pub AreOfPrints : List Print → ℕ → Type 0
AreOfPrints printed n = (count : ℕ) × (count ≤ length printed) × (n ≡ length (text_of (take count printed)))

-- there are so many prints, and so many bytes of those behind them
abbrev pub IsPlace : List Print → ℕ → ℕ → Type 0
IsPlace printed prints bytes = (prints ≤ length printed) × (bytes ≤ length (text_of (drop prints printed)))

-- the bytes of a text from one place up to another have gone out
pub record SendsOn (text : List ℕ) (from to : ℕ) (before after : Option (List ℕ)) : Type 0 where
  pub piece : List ℕ
  pub sent : Appends before after piece
  pub joins : take to text ≡ take from text ++ piece
  pub forth : from ≤ to
  pub within : to ≤ length text
