-- When a class can be settled, and what holds then of the region that its initializer leaves.
use Rattle.std.specs.Prelude.{◌≡◌, ℕ, ◌<◌, List, length, Option, Some, None, IsSome}
use Rattle.vm_state.specs.SharedState.{Region}
use Rattle.semantics.specs.Quiet.{Environment}
use Rattle.program.specs.Tables.{Tables}
use Rattle.machine.specs.Linked.{program_of}
use Rattle.region_shape.specs.Counts.{NamesObjects, HoldsAll}
use Rattle.region_shape.specs.Laws.{IsLinked}
use Rattle.region_shape.specs.Shapes.{HasShape}
use Rattle.region_shape.specs.Sizes.{IsWithin}
use Rattle.region_shape.specs.Texts.{HasTexts}
use Rattle.region_shape.specs.Wholes.{AreWhole}
use Rattle.use_graph.specs.declared.mark.Mark.{Mark}
use Rattle.use_graph.specs.Uses.{IsUse, HasMark}
use Rattle.evaluator.specs.declared.outcome.Outcome.{Outcome}
use Rattle.evaluator.specs.declared.outcome.Outcome.TheVariants as outcomes
use Rattle.region_shape.specs.declared.regions.Region.{Region as Held}
use Rattle.region_shape.specs.Regions.{environment_of, region_in, region_of, with_region}
use Rattle.evaluator.specs.Outcomes.{IsUnbarred}

-- A given class can be settled: its code bears no mark, and its initializer is lent some of the regions at hand, those
-- of its uses among them and its own not, which have shape, and name objects of one another and strings of the program
-- alone.
pub record IsSettleable (P : Tables) (env : Environment) (c : ℕ) : Type 0 where
  pub given : c < length P.classes
  pub unmarked : (mark : Mark) → ¬ HasMark P c mark
  pub lent : Environment
  pub at_hand : (d : ℕ) (region : Region) → lent d ≡ Some region → env d ≡ Some region
  pub uses : (d : ℕ) → IsUse P c d → IsSome (lent d)
  pub apart : lent c ≡ None
  pub whole : AreWhole P lent

-- The region has shape, names such objects alone as there are and strings of the program alone, holds all objects that
-- were made, and has no more of them, and no array of more elements, than the budget.
pub record IsWhole (P : Tables) (env : Environment) (c budget : ℕ) (region : Region) : Type 0 where
  pub shape : HasShape P c region
  pub names : NamesObjects env c region
  pub all : HoldsAll region.pool
  pub texts : HasTexts P region
  pub size : IsWithin budget region

-- the region that is left, if there is one, is such
abbrev pub LeavesWhole : Tables → Environment → ℕ → ℕ → Outcome → Type 0
LeavesWhole P env c budget (outcomes.Settled region) = IsWhole P env c budget (region_of region)
LeavesWhole P env c budget (outcomes.Refused why) = Unit {0}

-- ---- laws

-- A class that can be settled is not barred, whatever the budget.
abbrev pub SettleableAreUnbarred : Type 0
SettleableAreUnbarred =
    (P : Tables) → IsLinked P → (env : Environment) (c budget : ℕ) → IsSettleable P env c
    → IsUnbarred (program_of P) env c budget

-- Whole regions stay whole where such a region as is left is put among them, of a class that had none: so classes can
-- be settled one by one.
abbrev pub WholeStayWhole : Type 0
WholeStayWhole =
    (P : Tables) (before after : List (Option Held)) (c budget : ℕ) (region : Held)
    → AreWhole P (environment_of before) → region_in before c ≡ None
    → IsWhole P (environment_of before) c budget (region_of region)
    → region_in after ≡ with_region (region_in before) c region → AreWhole P (environment_of after)
