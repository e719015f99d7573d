-- What holds of the regions of settled classes.
use Rattle.std.specs.Prelude.{◌≡◌, ℕ, Bool, List, Some}
use Rattle.vm_state.specs.SharedState.{Region}
use Rattle.program.specs.Tables.{Tables}
use Rattle.region_shape.specs.Laws.{IsLinked, IsFromFile}
use Rattle.region_shape.specs.Sizes.{IsWithin}
use Rattle.region_shape.specs.Wholes.{AreWhole}
use Rattle.wave_scheduler.specs.Settled.{Settled, region_in, AreSettled}

-- The regions of settled classes are whole.
abbrev pub SettledAreWhole : Type 0
SettledAreWhole =
    (P : Tables) (forced : List Bool) (budget : ℕ) (S : Settled) → IsLinked P → ((c : ℕ) → IsFromFile P c)
    → AreSettled P forced budget S → AreWhole P (region_in S)

-- They have no more objects, and no array of more elements, than the budget.
abbrev pub SettledAreSmall : Type 0
SettledAreSmall =
    (P : Tables) (forced : List Bool) (budget : ℕ) (S : Settled) → IsLinked P → ((c : ℕ) → IsFromFile P c)
    → AreSettled P forced budget S → (c : ℕ) (region : Region) → region_in S c ≡ Some region
    → IsWithin budget region
