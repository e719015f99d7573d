-- The greatest of some sizes, one after another.
use Rattle.std.specs.Prelude.{◌≡◌, ◌⊎◌, ℕ, zero, suc, ◌<◌, ◌≤◌, List, [], ◌∷◌, slice_index_or, slice_set}

-- the size at a place, and 0 where there is none
abbrev pub size_at : List ℕ → ℕ → ℕ
size_at sizes c = slice_index_or sizes c 0

-- The size at this place is above 0, above each one before it, and not below any other.
pub record IsGreatest (sizes : List ℕ) (c : ℕ) : Type 0 where
  pub some : 0 < size_at sizes c
  pub before : (d : ℕ) → d < c → size_at sizes d < size_at sizes c
  pub all : (d : ℕ) → size_at sizes d ≤ size_at sizes c

-- The places of the greatest sizes above 0, at most so many: the greatest first, and of those that are equal the first.
-- The others are found where it is taken for 0.
abbrev pub AreLargest : ℕ → List ℕ → List ℕ → Type 0
AreLargest zero sizes places = places ≡ []
AreLargest (suc most) sizes places =
    (((d : ℕ) → size_at sizes d ≡ 0) × (places ≡ []))
    ⊎ ((c : ℕ) × (rest : List ℕ) × IsGreatest sizes c × AreLargest most (slice_set sizes c 0) rest
    × (places ≡ c ∷ rest))
