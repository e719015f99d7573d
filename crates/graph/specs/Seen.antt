-- Sets of numbers in the order in which they came.
use Rattle.std.specs.Prelude.{◌≡◌, ℕ, ◌≤◌, ◌==◌, Bool, List, [], ◌∷◌, ◌++◌, count_by}
use Rattle.std.specs.Bool.{MatchBool}
use Rattle.std.specs.List.{Contains}

-- members below a limit, the first to come first
pub record Seen : Type 0 where
  pub limit : ℕ
  pub items : List ℕ

-- at how many places a number stands
abbrev pub count_of : List ℕ → ℕ → ℕ
count_of items x = count_by (λ y. y == x) items

-- no number stands at two places
abbrev pub AreDistinct : List ℕ → Type 0
AreDistinct items = (x : ℕ) → count_of items x ≤ 1

-- a member joins at the end where it is fresh, and is there already where it is not
abbrev pub Joins : Bool → List ℕ → ℕ → List ℕ → Type 0
Joins fresh old member new =
    MatchBool fresh ((¬ Contains old member) × (new ≡ old ++ member ∷ [])) (Contains old member × (new ≡ old))
