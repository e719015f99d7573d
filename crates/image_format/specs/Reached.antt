-- The objects that static fields reach, and regions without the others.
use Rattle.std.specs.Prelude.{◌≡◌, ◌↔◌, ℕ, ◌+◌, Bool, true, List, [], ◌∷◌, Option, Some, option_map}
use Rattle.std.specs.List.{Contains, filter}
use Rattle.image_format.specs.Values as values
use Rattle.image_format.specs.Regions.{ImageObject, ImageRegion, KeptObject}
use Rattle.image_format.specs.Objects.{region_in, statics_of, object_of}

-- The least set that has each name in a static field, and each in a slot or an element of an object in it.
pub data IsReached (regions : List (Option ImageRegion)) : ℕ → ℕ → Type 0 where
  static : {c n : ℕ} (d : ℕ) → Contains (statics_of (region_in regions d)) (values.Object c n)
      → IsReached regions c n
  held : {c n d m : ℕ} (object : ImageObject) → IsReached regions d m → object_of regions d m ≡ Some object
      → Contains object.slots (values.Object c n) → IsReached regions c n

-- each object of a class is in it
abbrev pub AreReached : List (Option ImageRegion) → ℕ → Type 0
AreReached regions c =
    (n : ℕ) (object : ImageObject) → object_of regions c n ≡ Some object → IsReached regions c n

-- ---- without the others

abbrev pub kept_in : (ℕ → Bool) → ImageRegion → ImageRegion
kept_in keeps region = record region { objects = filter (λ (kept : KeptObject). keeps kept.number) region.objects }

-- the regions of classes from a number on
abbrev pub kept_from : (ℕ → ℕ → Bool) → ℕ → List (Option ImageRegion) → List (Option ImageRegion)
kept_from keeps c [] = []
kept_from keeps c (region ∷ more) = option_map (kept_in (keeps c)) region ∷ kept_from keeps (c + 1) more

-- the same statics and counts, and of all objects those that are reached
pub record IsDropped (all some : List (Option ImageRegion)) : Type 0 where
  pub keeps : ℕ → ℕ → Bool
  pub reached : (c n : ℕ) → (keeps c n ≡ true) ↔ IsReached all c n
  pub is : some ≡ kept_from keeps 0 all
