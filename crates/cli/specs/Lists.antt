-- Lists of names: files that words name with an @ before their own name, and that stand for the names in them.
use Rattle.std.specs.Prelude.{◌≡◌, ℕ, ◌==◌, List, [], ◌∷◌, Option, Some, None, Bool, true, false, if◌then◌else◌}
use Rattle.std.specs.List.{AllZip, filter, flat_map}
use Rattle.std.specs.Str.Lines.{lines}
use Rattle.cli.specs.Files.{AreBytesOf, Contents}

-- the list that a word names: what stands after an @ (64), if anything does
abbrev pub list_of : List ℕ → Option (List ℕ)
list_of (first ∷ next ∷ name) = if first == 64 then Some (next ∷ name) else None
list_of _ = None

abbrev pub is_filled : List ℕ → Bool
is_filled [] = false
is_filled _ = true

-- the names in a list: its lines, which end in a line feed, or a carriage return and a line feed, without those that
-- are empty
abbrev pub names_in : List ℕ → List (List ℕ)
names_in text = filter is_filled (lines text)

-- what stands for a word: the word, or the names in the list that it names
abbrev pub StandFor : Contents → List ℕ → Option (List ℕ) → List (List ℕ) → Type 0
StandFor holds word None names = names ≡ word ∷ []
StandFor holds word (Some list) names = (text : List ℕ) × AreBytesOf (holds list) text × (names ≡ names_in text)

-- These are the names that words give, each of which is a name or names a list.
pub record NamesGiven (holds : Contents) (words names : List (List ℕ)) : Type 0 where
  pub parts : List (List (List ℕ))
  pub stand : AllZip (λ (word : List ℕ) (part : List (List ℕ)). StandFor holds word (list_of word) part) words parts
  pub all : names ≡ flat_map (λ (part : List (List ℕ)). part) parts
