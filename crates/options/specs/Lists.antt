-- Lists of patterns, as the options give them: texts with commas between the patterns.
use Rattle.std.specs.Prelude.{◌≡◌, ◌≢◌, ℕ, ◌==◌, List, [], Some, take, slice_get}
use Rattle.std.specs.List.{All, slice_split}
use Rattle.options.specs.declared.fault.OptionFault.{OptionFault}
use Rattle.options.specs.declared.fault.OptionFault.TheVariants.{Empty}

-- the items of a list: its text is cut at commas, so the empty text is one empty item
abbrev pub items_of : List ℕ → List (List ℕ)
items_of text = slice_split (λ b. b == 44) text

abbrev pub IsNonEmpty : List ℕ → Type 0
IsNonEmpty item = item ≢ []

-- the item of this place is empty, and none before it
pub record IsFirstEmpty (items : List (List ℕ)) (place : ℕ) : Type 0 where
  pub here : slice_get items place ≡ Some []
  pub before : All IsNonEmpty (take place items)

-- what is wrong with a list, but for want of memory: its first empty item
pub data ListFails (text : List ℕ) : OptionFault → Type 0 where
  empty : {place : ℕ} → IsFirstEmpty (items_of text) place → ListFails text (Empty place)
