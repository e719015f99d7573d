-- Strings that others are added to.
use Rattle.std.specs.Prelude.{ℕ, List, ◌++◌}
use Rattle.hierarchy.specs.Texts.{AreDistinct}
use Rattle.hierarchy.specs.steps.GrowingTexts.{KeepsNumbers}
use Rattle.program.specs.Strings.{AreFirsts}

-- the strings of more texts
abbrev pub Adds : List (List ℕ) → List (List ℕ) → List (List ℕ) → Type 0
Adds old more new = (all : List (List ℕ)) → AreFirsts all old → AreFirsts (all ++ more) new

-- Strings that those of more texts were added to: what was there keeps its number.
pub record Gains (old more new : List (List ℕ)) : Type 0 where
  pub keeps : KeepsNumbers old new
  pub distinct : AreDistinct old → AreDistinct new
  pub adds : Adds old more new
