-- The accepted classes, which may be initialized at build time, and their regions, by recursion on what their
-- initializers may use.
use Rattle.std.specs.Prelude.{◌≡◌, ℕ, suc, max, ◌<◌, ◌≤◌, Bool, true, List, [], ◌∷◌, Some, IsSome}
use Rattle.std.specs.List.{Contains}
use Rattle.vm_state.specs.SharedState.{Region}
use Rattle.semantics.specs.Programs.{Program}
use Rattle.semantics.specs.Quiet.{Environment}
use Rattle.semantics.specs.Settling.{Settles}

-- What is known of the classes before any initializer runs.
pub record Analysis : Type 0 where
  -- the classes that a class's initialization may need
  pub uses : ℕ → List ℕ
  -- a class may be initialized at build time, as far as the options and its code say
  pub allowed : ℕ → Bool
  -- what an initializer may cost
  pub budget : ℕ

-- ---- waves

-- one more than the greatest wave of some classes, 0 of none
abbrev pub above : (ℕ → ℕ) → List ℕ → ℕ
above wave [] = 0
above wave (c ∷ cs) = max (suc (wave c)) (above wave cs)

-- The wave of a class that does not use itself through others: 0 without uses, else one more than the greatest of its
-- uses.
pub data IsWave (uses : ℕ → List ℕ) : ℕ → ℕ → Type 0 where
  Over : (c : ℕ) (wave : ℕ → ℕ) → ((d : ℕ) → Contains (uses c) d → IsWave uses d (wave d)) →
      IsWave uses c (above wave (uses c))

-- d is of a lower wave than c
abbrev pub IsLower : (ℕ → List ℕ) → ℕ → ℕ → Type 0
IsLower uses d c = (m : ℕ) × (n : ℕ) × IsWave uses d m × IsWave uses c n × (m < n)

-- ---- acceptance

-- A class is accepted, with this region: it is one of the program, it is allowed, and its initializer settles within
-- the budget, with the regions of some accepted classes of lower waves at hand, all its uses among them. Which these
-- are makes no difference to the region.
pub data Accepted (P : Program) (A : Analysis) : ℕ → Region → Type 0 where
  Accepts : (c : ℕ) (region : Region) (env : Environment) (n : ℕ) → c < P.count → A.allowed c ≡ true →
      ((d : ℕ) → Contains (A.uses c) d → IsSome (env d)) →
      ((d : ℕ) (r : Region) → env d ≡ Some r → IsLower A.uses d c) →
      ((d : ℕ) (r : Region) → env d ≡ Some r → Accepted P A d r) →
      Settles P env c n region → n ≤ A.budget → Accepted P A c region

-- ---- laws

-- An accepted class has one region.
abbrev pub OneRegion : Type 0
OneRegion =
    (P : Program) (A : Analysis) (c : ℕ) (first second : Region) →
    Accepted P A c first → Accepted P A c second → first ≡ second

-- these regions are those of accepted classes
abbrev pub AreAccepted : Program → Analysis → Environment → Type 0
AreAccepted P A env = (d : ℕ) (r : Region) → env d ≡ Some r → Accepted P A d r

-- each class at hand in the first is at hand in the second
abbrev pub IsWithin : Environment → Environment → Type 0
IsWithin first second = (d : ℕ) → IsSome (first d) → IsSome (second d)

-- With more accepted classes at hand an initializer leaves the same region, at the same cost.
abbrev pub WiderEnvironment : Type 0
WiderEnvironment =
    (P : Program) (A : Analysis) (env wider : Environment) →
    AreAccepted P A env → AreAccepted P A wider → IsWithin env wider →
    (c n : ℕ) (region : Region) → Settles P env c n region → Settles P wider c n region
