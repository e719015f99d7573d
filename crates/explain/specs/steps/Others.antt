-- Copies of the regions of classes, one class after another.
use Rattle.std.specs.Prelude.{◌≡◌, ℕ, ◌<◌, ◌≤◌, None}
use Rattle.semantics.specs.Quiet.{Environment}

-- just those of the classes below a number are copied
pub record AreFirst (env : Environment) (n : ℕ) (copies : Environment) : Type 0 where
  pub copied : (d : ℕ) → d < n → copies d ≡ env d
  pub rest : (d : ℕ) → n ≤ d → copies d ≡ None
