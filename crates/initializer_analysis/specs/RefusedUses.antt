-- Refused classes that a class uses.
use Rattle.std.specs.Prelude.{◌≡◌, ℕ, ◌<◌, Bool, false, None, Option, IsTrue, List, length, slice_index_or}
use Rattle.program.specs.Tables.{Tables}
use Rattle.use_graph.specs.Uses.{IsUse}
use Rattle.initializer_analysis.specs.Least.{IsFirst}

-- a class uses this one, which is refused: a number beyond the flags is not
abbrev pub IsRefusedUse : Tables → List Bool → ℕ → ℕ → Type 0
IsRefusedUse P refused c e = IsUse P c e × IsTrue (slice_index_or refused e false)

-- for each given class the first refused class that it uses, if it uses one
pub record AreFirstRefused (P : Tables) (refused : List Bool) (first : List (Option ℕ)) : Type 0 where
  pub count : length first ≡ length P.classes
  pub each : (c : ℕ) → c < length P.classes → IsFirst (IsRefusedUse P refused c) (slice_index_or first c None)
