-- Words with the texts of the lists that they name.
use Rattle.std.specs.Prelude.{◌≡◌, ℕ, List, [], ◌∷◌, string_bytes}
use Rattle.std.specs.List.{AllZip}
use Rattle.cli.specs.Files.{Contents}
use Rattle.cli.specs.Lists.{StandFor, list_of, names_in}
use Rattle.cli.specs.declared.lists.Given.{Given}
use Rattle.cli.specs.declared.lists.Given.TheVariants as given

-- the names that a word stands for
abbrev pub names_of : Given → List (List ℕ)
names_of (given.Name name) = name.now ∷ []
names_of (given.List text) = names_in (string_bytes text)

-- what a word is given as
abbrev pub IsGivenAs : Contents → List ℕ → Given → Type 0
IsGivenAs holds word one = StandFor holds word (list_of word) (names_of one)

abbrev pub AreGivenAs : Contents → List (List ℕ) → List Given → Type 0
AreGivenAs holds words ones = AllZip (IsGivenAs holds) words ones
