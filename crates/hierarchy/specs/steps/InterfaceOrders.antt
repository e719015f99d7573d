-- What is initialized of some interfaces and those above them (JVMS 5.5, step 7).
use Rattle.std.specs.Prelude.{◌≡◌, ℕ, ◌<◌, Bool, false, List, [], ◌∷◌, ◌++◌, Option, None, Some, length, slice_index_or}
use Rattle.std.specs.List.{All, filter}
use Rattle.loading.specs.Families.{Family}
use Rattle.hierarchy.specs.Search.{SuperinterfacesFirst, firsts}
use Rattle.hierarchy.specs.Initialization.{is_initialized_first}
use Rattle.hierarchy.specs.steps.Ascents.{ParentsBefore}

-- To a list were added, of some interfaces and those above them, those that declare a default method, each once and
-- after its own superinterfaces.
pub record AddsInterfaces (family : Family) (is old new : List ℕ) : Type 0 where
  pub all : List ℕ
  pub stand : SuperinterfacesFirst family is all
  pub kept : new ≡ old ++ filter (is_initialized_first family) (firsts all)

-- Flags that tell of each class whether it is initialized first.
pub record TellFirst (family : Family) (flags : List Bool) : Type 0 where
  pub count : length flags ≡ length family
  pub tell : (i : ℕ) → i < length flags → slice_index_or flags i false ≡ is_initialized_first family i

-- A list has, of some classes and those above them, those that declare a default method, each once and after its own
-- parents; what else it has does not matter.
pub record Gathers (family : Family) (is list : List ℕ) : Type 0 where
  pub all : List ℕ
  pub stand : ParentsBefore family is all
  pub kept : filter (is_initialized_first family) list ≡ filter (is_initialized_first family) (firsts all)

-- Lists of some interfaces. Which have one is a question of time alone.
pub record AreShort (family : Family) (rows : List (Option (List ℕ))) : Type 0 where
  pub count : length rows ≡ length family
  pub gathered : (i : ℕ) (list : List ℕ) → slice_index_or rows i None ≡ Some list → Gathers family (i ∷ []) list
  pub within : (i : ℕ) (list : List ℕ) → slice_index_or rows i None ≡ Some list → All (λ c. c < length family) list
