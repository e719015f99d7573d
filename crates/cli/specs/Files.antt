-- What the files of a command hold, as far as it is known.
use Rattle.std.specs.Prelude.{◌≡◌, ◌≢◌, ℕ, List, Option, Some, None, ⊤}
use Rattle.std.specs.List.{AllZip}

-- what the file of a name holds, where that is known
abbrev pub Contents : Type 0
Contents = List ℕ → Option (List ℕ)

-- these are the bytes of a file, if it is known what it holds
abbrev pub AreBytesOf : Option (List ℕ) → List ℕ → Type 0
AreBytesOf None bytes = ⊤
AreBytesOf (Some known) bytes = bytes ≡ known

-- these are the texts of the files of these names
abbrev pub AreTextsOf : Contents → List (List ℕ) → List (List ℕ) → Type 0
AreTextsOf holds names texts = AllZip (λ (name text : List ℕ). AreBytesOf (holds name) text) names texts

-- every file but that of this name holds what it held
abbrev pub OthersStay : Contents → Contents → List ℕ → Type 0
OthersStay old new name = (other : List ℕ) → other ≢ name → new other ≡ old other
