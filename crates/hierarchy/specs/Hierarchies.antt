-- A family whose members are found by numbers.
use Rattle.std.specs.Prelude.{ℕ, List}
use Rattle.loading.specs.Families.{Family}

-- A family, and the texts that its members are called by, each at its number.
pub record NumberedFamily : Type 0 where
  pub family : Family
  pub texts : List (List ℕ)
