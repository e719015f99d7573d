-- Regions that name an object that there is not.
use Rattle.std.specs.Prelude.{◌≡◌, ℕ, List, take, Option, Some, None, slice_get}
use Rattle.std.specs.List.{All}
use Rattle.image_format.specs.Regions.{ImageRegion, KeptObject}
use Rattle.image_format.specs.Images.{IsThere, NamesObjects}

abbrev pub SlotsAreThere : List (Option ImageRegion) → KeptObject → Type 0
SlotsAreThere regions kept = All (IsThere regions) kept.object.slots

-- a class that is not initialized names nothing
abbrev pub FlagNames : List (Option ImageRegion) → Option ImageRegion → Type 0
FlagNames regions None = Unit {0}
FlagNames regions (Some region) = NamesObjects regions region

-- the least class whose region names one
pub record IsNameless (regions : List (Option ImageRegion)) (c : ℕ) : Type 0 where
  pub flag : Option ImageRegion
  pub is : slice_get regions c ≡ Some flag
  pub names : ¬ FlagNames regions flag
  pub least : All (FlagNames regions) (take c regions)
