-- The least of labels, and the two least.
use Rattle.std.specs.Prelude.{◌≡◌, ℕ, ◌≤◌, Option, Some, None, ◌⊎◌}
use Rattle.initializer_analysis.specs.declared.labels.Least.{Least}

-- the least number that has a property, if one has it
abbrev pub IsFirst : (ℕ → Type 0) → Option ℕ → Type 0
IsFirst P None = (l : ℕ) → ¬ P l
IsFirst P (Some first) = P first × ((l : ℕ) → P l → first ≤ l)

-- the two least that have a property
pub record AreLeast (P : ℕ → Type 0) (least : Least) : Type 0 where
  pub first : IsFirst P least.first
  pub second : IsFirst (λ l. P l × (¬ (least.first ≡ Some l))) least.second

-- it is one of the two
abbrev pub IsOf : Least → ℕ → Type 0
IsOf least l = (least.first ≡ Some l) ⊎ (least.second ≡ Some l)
