-- Ascents of a family, depth first (JVMS 5.4.3.2, 5.5).
use Rattle.std.specs.Prelude.{◌≡◌, ℕ, ◌+◌, ◌-◌, ◌*◌, ◌<◌, ◌≤◌, ◌⊎◌, ◌↔◌, List, [], ◌∷◌, ◌++◌, Option, length}
use Rattle.std.specs.Prelude.{reverse}
use Rattle.std.specs.List.{All, Contains}
use Rattle.graph.specs.Seen.{AreDistinct}
use Rattle.loading.specs.Families.{Family, IsFamily, IsAncestor, parents_in}
use Rattle.hierarchy.specs.Search.{Search, firsts}
use Rattle.hierarchy.specs.steps.Above.{or_else, first_with, IsAmongOrAbove}
use Rattle.hierarchy.specs.declared.member.DeclaredMember.{DeclaredMember}
use Rattle.hierarchy.specs.declared.ascent.Visit.{Visit}
use Rattle.hierarchy.specs.declared.ascent.Ascent.{Ascent}
use Rattle.hierarchy.specs.declared.ascent.Visit.TheVariants.{Enter, Leave}

-- Some classes in order, each after its parents, which stand there once for each class that they are parents of.
pub data ParentsBefore (family : Family) : List ℕ → List ℕ → Type 0 where
  none : ParentsBefore family [] []
  next : {c : ℕ} {cs above rest : List ℕ} → ParentsBefore family (parents_in family c) above
      → ParentsBefore family cs rest
      → ParentsBefore family (c ∷ cs) (above ++ c ∷ rest)

-- the way up from some classes ends
abbrev pub HasPostorder : Family → List ℕ → Type 0
HasPostorder family is = (all : List ℕ) × ParentsBefore family is all

-- Some classes and all above them, each once and after its parents.
pub record IsPostorderOf (family : Family) (from list : List ℕ) : Type 0 where
  pub all : List ℕ
  pub stand : ParentsBefore family from all
  pub first : list ≡ firsts all

-- Some classes and all above them, each once, in an order in which every search along them finds what it should.
pub record IsSearchOrder (family : Family) (from list : List ℕ) : Type 0 where
  pub once : AreDistinct list
  pub members : (c : ℕ) → Contains list c ↔ IsAmongOrAbove family from c
  pub search : (own : ℕ → Option ℕ) → Search family own from (first_with own list)

-- ---- what is still to be done

abbrev pub class_of : Visit → ℕ
class_of (Enter c) = c
class_of (Leave c) = c

-- the classes that are still to be entered
abbrev pub to_enter : List Visit → List ℕ
to_enter [] = []
to_enter (Enter c ∷ visits) = c ∷ to_enter visits
to_enter (Leave c ∷ visits) = to_enter visits

-- what would be left by some visits if each class was entered again
pub data Leaves (family : Family) : List Visit → List ℕ → Type 0 where
  done : Leaves family [] []
  enter : {c : ℕ} {visits : List Visit} {above rest : List ℕ} → ParentsBefore family (parents_in family c) above
      → Leaves family visits rest
      → Leaves family (Enter c ∷ visits) (above ++ c ∷ rest)
  leave : {c : ℕ} {visits : List Visit} {rest : List ℕ} → Leaves family visits rest
      → Leaves family (Leave c ∷ visits) (c ∷ rest)

-- a class is left after its parents, which are among some classes or come before it
abbrev pub ParentsCome : Family → List ℕ → List Visit → Type 0
ParentsCome family before [] = Unit {0}
ParentsCome family before (Enter c ∷ visits) = ParentsCome family (c ∷ before) visits
ParentsCome family before (Leave c ∷ visits) =
    ((p : ℕ) → Contains (parents_in family c) p → Contains before p) × ParentsCome family (c ∷ before) visits

-- each class stands above those that are left after it
abbrev pub StandAbove : Family → List Visit → Type 0
StandAbove family [] = Unit {0}
StandAbove family (visit ∷ visits) =
    ((c : ℕ) → Contains visits (Leave c) → IsAncestor family c (class_of visit)) × StandAbove family visits

-- all that stands above a class was left
abbrev pub IsFinished : Family → List ℕ → ℕ → Type 0
IsFinished family left c = (above : List ℕ) × ParentsBefore family (parents_in family c) above
    × ((a : ℕ) → Contains above a → Contains left a)

-- An ascent from some classes, of which these visits are still to come. `whole` is what was left by now, again
-- wherever a
-- class that was left came again.
pub record Ascending (family : Family) (from : List ℕ) (visits : List Visit) (entered left : List ℕ) : Type 0 where
  pub fits : IsFamily family
  pub once : AreDistinct entered
  pub parents : ParentsCome family left visits
  pub above : StandAbove family visits
  pub known : (c : ℕ) → Contains entered c → Contains left c ⊎ Contains visits (Leave c)
  pub left_entered : (c : ℕ) → Contains left c → Contains entered c
  pub leaves_entered : (c : ℕ) → Contains visits (Leave c) → Contains entered c
  pub finished : (c : ℕ) → Contains left c → IsFinished family left c
  pub whole : List ℕ
  pub first : left ≡ firsts whole
  pub stand : (rest : List ℕ) → Leaves family visits rest → ParentsBefore family from (whole ++ rest)
  pub search : (own : ℕ → Option ℕ) (r : Option DeclaredMember) → Search family own (to_enter visits) r
      → Search family own from (or_else (first_with own entered) r)

-- ---- its room

-- An ascent has room for all classes of a family.
pub record HasRoomFor (family : Family) (ascent : Ascent) : Type 0 where
  pub entered : length family ≤ ascent.entered.limit
  pub left : length family ≤ ascent.left.limit

-- It has as much room as before.
pub record KeepsRoom (old new : Ascent) : Type 0 where
  pub entered : new.entered.limit ≡ old.entered.limit
  pub left : new.left.limit ≡ old.left.limit

-- ---- that it ends

-- at least as many as the parents of any class
abbrev pub parents_count : Family → ℕ
parents_count [] = 0
parents_count (c ∷ family) = length c.interfaces + 1 + parents_count family

-- a bound for what an ascent still does
abbrev pub work_left : Family → ℕ → List ℕ → List Visit → ℕ
work_left family limit entered visits = (limit - length entered) * (parents_count family + 2) + length visits

-- what an ascent is to do is of classes of a family
abbrev pub IsWithin : Family → Ascent → Type 0
IsWithin family ascent = All (λ visit. class_of visit < length family) (reverse ascent.todo.items)

-- A step of an ascent stays within a family, and nothing that it plans takes longer than what it did.
pub record StepsWithin (family : Family) (old new : Ascent) : Type 0 where
  pub within : IsWithin family new
  pub nearer : work_left family new.entered.limit new.entered.items new.todo.items
      ≤ work_left family old.entered.limit old.entered.items old.todo.items
