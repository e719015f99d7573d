-- What threads print.
use Rattle.std.specs.Prelude.{ℕ, List, [], ◌∷◌, ◌++◌}

-- one print: the number of the thread, and the text in UTF-8
pub record Print : Type 0 where
  pub thread : ℕ
  pub text : List ℕ

-- the texts of some prints as one
abbrev pub text_of : List Print → List ℕ
text_of [] = []
text_of (p ∷ ps) = p.text ++ text_of ps
