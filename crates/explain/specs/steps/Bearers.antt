-- Bearers that differ in the class of their field.
use Rattle.std.specs.Prelude.{◌≡◌, ◌≢◌, ◌⊎◌, ℕ, ◌+◌, Option, Some, None}
use Rattle.explain.specs.declared.bearers.Bearer.{Bearer}
use Rattle.explain.specs.declared.bearers.Pair.{Pair}

abbrev pub IsOf : Pair → Bearer → Type 0
IsOf pair g = (pair.first ≡ Some g) ⊎ (pair.second ≡ Some g)

-- the second comes after a first, and differs from it
pub record IsPair (pair : Pair) : Type 0 where
  pub order : (g : Bearer) → pair.second ≡ Some g → (h : Bearer) × (pair.first ≡ Some h)
  pub apart : (g h : Bearer) → pair.first ≡ Some g → pair.second ≡ Some h → g.field_class ≢ h.field_class

-- one of some bearers is no field's of this class
abbrev pub HasBut : (Bearer → Type 0) → Option ℕ → Type 0
HasBut Has class = (h : Bearer) × Has h × (h.field_class ≢ class)

-- wherever a bearer serves, one of these does
abbrev pub Serves : (Bearer → Type 0) → Bearer → Type 0
Serves Has g = (class : Option ℕ) → g.field_class ≢ class → HasBut Has class

abbrev pub Offers : Pair → Bearer → Type 0
Offers pair g = Serves (IsOf pair) g

-- so many bearers more
abbrev pub one_if_none : Option Bearer → ℕ
one_if_none None = 1
one_if_none (Some g) = 0

abbrev pub room : Pair → ℕ
room pair = one_if_none pair.first + one_if_none pair.second

-- it comes to these
pub record Takes (old : Pair) (g : Bearer) (new : Pair) : Type 0 where
  pub pair : IsPair new
  pub keeps : (h : Bearer) → IsOf old h → IsOf new h
  pub has : IsOf new g
  pub only : (h : Bearer) → IsOf new h → IsOf old h ⊎ (h ≡ g)
  pub less : room new + 1 ≡ room old
