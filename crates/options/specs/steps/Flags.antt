-- Flags of classes that grow, and how far.
use Rattle.std.specs.Prelude.{◌≡◌, ℕ, ◌⊎◌, ◌↔◌, Bool, List, IsTrue, length, take}
use Rattle.std.specs.List.{Contains}
use Rattle.loading.specs.Families.{Family, superclasses_in}
use Rattle.initializer_analysis.specs.Forced.{has_class}
use Rattle.options.specs.Classes.{IsAtOrBelow, IsAtOrAbove}

abbrev pub IsFlagged : List Bool → ℕ → Type 0
IsFlagged flags class = IsTrue (has_class flags class)

-- to the flagged classes those of a kind came, and no others
pub record Grow (old new : List Bool) (P : ℕ → Type 0) : Type 0 where
  pub len : length new ≡ length old
  pub flags : (class : ℕ) → IsFlagged new class ↔ (IsFlagged old class ⊎ P class)

-- the superclass of a class is given, and flagged
abbrev pub HasFlaggedSuperclass : Family → List Bool → ℕ → Type 0
HasFlaggedSuperclass family flags class = (parent : ℕ) × Contains (superclasses_in family class) parent
    × IsFlagged flags parent

-- From the first classes of an order on, those are flagged that stand at or below one that was flagged at first.
pub record AreBelow (family : Family) (order : List ℕ) (first flags : List Bool) (done : ℕ) : Type 0 where
  pub len : length flags ≡ length first
  pub sound : (class : ℕ) → IsFlagged flags class → IsAtOrBelow family (IsFlagged first) class
  pub kept : (class : ℕ) → IsFlagged first class → IsFlagged flags class
  pub whole : (class : ℕ) → Contains (take done order) class → HasFlaggedSuperclass family flags class
      → IsFlagged flags class

-- Those that are flagged stand at or above one that was flagged at first; and each has its superclass flagged, or is
-- one
-- of the first classes of an order, which are still to come.
pub record AreAbove (family : Family) (order : List ℕ) (first flags : List Bool) (left : ℕ) : Type 0 where
  pub len : length flags ≡ length first
  pub sound : (class : ℕ) → IsFlagged flags class → IsAtOrAbove family (IsFlagged first) class
  pub kept : (class : ℕ) → IsFlagged first class → IsFlagged flags class
  pub whole : (class parent : ℕ) → IsFlagged flags class → Contains (superclasses_in family class) parent
      → IsFlagged flags parent ⊎ Contains (take left order) class
