-- What the proof of the headline works in: a program, an image, and what is known of both.
use Rattle.std.proofs.Common.{◌≡◌, ℕ, Bool, true, ◌&&◌, ◌<◌, Some, None, if◌then◌else◌, nat_lt}
use Rattle.std.specs.List.{AllByRecursion}
use Rattle.semantics.specs.Programs.{Program}
use Rattle.semantics.specs.Quiet.{Environment}
use Rattle.semantics.specs.Alone.{SettlesAlone}
use Rattle.semantics.specs.Images.{Image}
use Rattle.semantics.specs.Lawful.{IsLawful}

-- d is accepted, and of a lower wave than c
abbrev pub is_below : Image → (ℕ → ℕ) → ℕ → ℕ → Bool
is_below I wave c d = I.holds d && nat_lt (wave d) (wave c)

-- the regions of all accepted classes of lower waves
abbrev pub below : Image → (ℕ → ℕ) → ℕ → Environment
below I wave c d = if is_below I wave c d then Some (I.region d) else None

pub record Setting : Type 0 where
  pub P : Program
  pub I : Image
  pub lawful : IsLawful P
  pub wave : ℕ → ℕ
  -- each accepted class's initializer alone leaves its region
  pub settled : (c : ℕ) → I.holds c ≡ true → (n : ℕ) × SettlesAlone P (below I wave c) c n (I.region c)
  -- what is initialized before an accepted class is accepted, and of lower waves
  pub parents : (c : ℕ) → I.holds c ≡ true → AllByRecursion (λ p. is_below I wave c p ≡ true) (P.parents c)
  pub bound : ℕ
  pub bounded : (c : ℕ) → I.holds c ≡ true → c < bound
