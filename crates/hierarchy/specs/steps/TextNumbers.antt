-- The numbers that texts are found at.
use Rattle.std.specs.Prelude.{◌≡◌, ℕ, List, Option, Some, nat_eq, slice_get}
use Rattle.std.specs.Cmp.Lexicographic.{pointwise}
use Rattle.std.specs.HashMap.{HashMap, get_by}
use Rattle.std.specs.declared.vec.Vec.{Vec}
use Rattle.std.specs.declared.alloc.Global.{Global}
use Rattle.hierarchy.specs.declared.text_state.TextState.{TextState}

-- the number of a text, if it is found
abbrev pub number_in : HashMap (Vec ℕ Global) ℕ TextState → List ℕ → Option ℕ
number_in numbers text = get_by (λ key. pointwise nat_eq text key.items) numbers

-- Each text is found at its place, and no other text is found.
pub record FindTexts (texts : List (List ℕ)) (numbers : HashMap (Vec ℕ Global) ℕ TextState) : Type 0 where
  pub found : (n : ℕ) (text : List ℕ) → slice_get texts n ≡ Some text → number_in numbers text ≡ Some n
  pub there : (n : ℕ) (text : List ℕ) → number_in numbers text ≡ Some n → slice_get texts n ≡ Some text
