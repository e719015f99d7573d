-- What stands above a class, kept until another class is asked for.
use Rattle.std.specs.Prelude.{◌≡◌, ℕ, ◌≤◌, List, Option, Some, length, slice_get}
use Rattle.std.specs.List.{Contains}
use Rattle.loading.specs.Families.{Family, parents_in}
use Rattle.hierarchy.specs.steps.DepthFirst.{ArePlaces}
use Rattle.hierarchy.specs.steps.Ascents.{IsSearchOrder}
use Rattle.hierarchy.specs.declared.ancestors.PlacedMember.{PlacedMember}
use Rattle.hierarchy.specs.declared.ascent.Ascent.{Ascent}

-- some classes, and the class that they stand above, if they were all found
pub record AncestorList : Type 0 where
  pub class : Option ℕ
  pub items : List ℕ

-- There is room for so many classes, and the place of each class that was found is noted.
pub record HasRoom (ascent : Ascent) (places : List ℕ) : Type 0 where
  pub entered : ascent.entered.limit ≡ length places
  pub left : ascent.left.limit ≡ length places
  pub few : length places ≤ 65535
  pub noted : ArePlaces ascent.entered.items places

-- They stand above that class in the order of searches.
abbrev pub AreOf : Family → AncestorList → Type 0
AreOf family a = (c : ℕ) → a.class ≡ Some c → IsSearchOrder family (parents_in family c) a.items

-- ---- the first of them that has something

-- What was found has it, at its place.
abbrev pub Stands : (ℕ → Option ℕ) → List ℕ → PlacedMember → Type 0
Stands own items s = (slice_get items s.place ≡ Some s.member.class) × (own s.member.class ≡ Some s.member.index)

-- Of those that were asked for, what was found is the first that has it.
pub record IsFirst (own : ℕ → Option ℕ) (items asked : List ℕ) (found : Option PlacedMember) : Type 0 where
  pub stands : (s : PlacedMember) → found ≡ Some s → Stands own items s
  pub least : (q c k : ℕ) → Contains asked c → slice_get items q ≡ Some c → own c ≡ Some k
      → (s : PlacedMember) × (found ≡ Some s) × (s.place ≤ q)
