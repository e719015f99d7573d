-- An order of classes in which those below a class stand together, behind it (JVMS 4.1, super_class).
use Rattle.std.specs.Prelude.{◌≡◌, ℕ, ◌==◌, List, [], ◌∷◌, Option, Some, None, slice_get}
use Rattle.std.specs.Prelude.{slice_index_or, if◌then◌else◌, length, ◌<◌}
use Rattle.std.specs.List.{Contains}
use Rattle.loading.specs.Families.{Family, superclasses_in}

-- a class, or a given class on its chain of superclasses
pub data IsAtOrAbove (family : Family) : ℕ → ℕ → Type 0 where
  same : {c : ℕ} → IsAtOrAbove family c c
  up : {c d e : ℕ} → superclasses_in family c ≡ d ∷ [] → IsAtOrAbove family d e → IsAtOrAbove family c e

-- A class may stand behind another one, or first: it has no given superclass, or one that is on the other's chain.
pub data MayFollow (family : Family) : Option ℕ → ℕ → Type 0 where
  root : {before : Option ℕ} {c : ℕ} → superclasses_in family c ≡ [] → MayFollow family before c
  below : {before c d : ℕ} → superclasses_in family c ≡ d ∷ [] → IsAtOrAbove family before d
      → MayFollow family (Some before) c

-- Each class may stand behind the one before it.
pub data IsDepthFirst (family : Family) : Option ℕ → List ℕ → Type 0 where
  none : {before : Option ℕ} → IsDepthFirst family before []
  next : {before : Option ℕ} {c : ℕ} {cs : List ℕ} → MayFollow family before c → IsDepthFirst family (Some c) cs
      → IsDepthFirst family before (c ∷ cs)

-- A row of classes: by class the one behind it.
abbrev pub IsRow : List (Option ℕ) → Option ℕ → List ℕ → Type 0
IsRow behind first [] = first ≡ None
IsRow behind first (c ∷ cs) =
    (first ≡ Some c) × (after : Option ℕ) × (slice_get behind c ≡ Some after) × IsRow behind after cs

-- a class right behind another one
abbrev pub put_behind : ℕ → ℕ → List ℕ → List ℕ
put_behind d c [] = []
put_behind d c (x ∷ xs) = if x == d then x ∷ c ∷ xs else x ∷ put_behind d c xs

-- A row has some classes, each once, and is depth first.
pub record Holds (family : Family) (placed : List ℕ) (first : Option ℕ) (behind : List (Option ℕ)) : Type 0 where
  pub classes : List ℕ
  pub is_row : IsRow behind first classes
  pub members : (c : ℕ) → Contains placed c → Contains classes c
  pub only : (c : ℕ) → Contains classes c → Contains placed c
  pub count : length classes ≡ length placed
  pub ordered : IsDepthFirst family None classes

-- no class stands at two places
abbrev pub StandOnce : List ℕ → Type 0
StandOnce order = (i j c : ℕ) → slice_get order i ≡ Some c → slice_get order j ≡ Some c → i ≡ j

-- All given classes, depth first.
pub record IsWholeOrder (family : Family) (order : List ℕ) : Type 0 where
  pub whole : (c : ℕ) → c < length family → Contains order c
  pub within : (c : ℕ) → Contains order c → c < length family
  pub once : StandOnce order
  pub ordered : IsDepthFirst family None order

-- by class: where it stands in an order of all of them
abbrev pub ArePlaces : List ℕ → List ℕ → Type 0
ArePlaces order places = (c : ℕ) → Contains order c → slice_get order (slice_index_or places c 0) ≡ Some c
