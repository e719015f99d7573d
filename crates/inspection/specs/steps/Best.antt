-- The greatest of the first sizes.
use Rattle.std.specs.Prelude.{◌≡◌, ℕ, ◌<◌, ◌≤◌, List, Option, MatchOption}
use Rattle.inspection.specs.Largest.{size_at}
use Rattle.inspection.specs.declared.largest.Best.{Best}

-- The size at this place is the most, which is above 0, and above each one before it.
pub record IsFirstOf (sizes : List ℕ) (i most c : ℕ) : Type 0 where
  pub low : c < i
  pub is : size_at sizes c ≡ most
  pub some : 0 < most
  pub before : (d : ℕ) → d < c → size_at sizes d < most

-- what is said of the place of the best
abbrev pub IsBestAt : List ℕ → ℕ → ℕ → Option ℕ → Type 0
IsBestAt sizes i most place = MatchOption place (most ≡ 0) (IsFirstOf sizes i most)

-- No size before a place is above that of the best.
pub record IsBest (sizes : List ℕ) (i : ℕ) (best : Best) : Type 0 where
  pub below : (d : ℕ) → d < i → size_at sizes d ≤ best.size
  pub is : IsBestAt sizes i best.size best.place
