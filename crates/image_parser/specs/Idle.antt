-- Regions that keep an object which no static field reaches.
use Rattle.std.specs.Prelude.{ℕ, ◌<◌, List, Option}
use Rattle.image_format.specs.Regions.{ImageRegion}
use Rattle.image_format.specs.Reached.{AreReached}

-- the least class whose region keeps one
pub record IsIdle (regions : List (Option ImageRegion)) (c : ℕ) : Type 0 where
  pub some : ¬ AreReached regions c
  pub least : (d : ℕ) → d < c → AreReached regions d
