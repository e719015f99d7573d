-- Texts that may write a number.
use Rattle.std.specs.Prelude.{◌≡◌, ◌≢◌, ℕ, ◌<◌, List, length, get_or}

-- not empty, no sign, and no zero in front of others
pub record StartsPlainly (bs : List ℕ) : Type 0 where
  pub some : 0 < length bs
  pub unsigned : get_or bs 0 0 ≢ 43
  pub zero : get_or bs 0 0 ≡ 48 → length bs ≡ 1
