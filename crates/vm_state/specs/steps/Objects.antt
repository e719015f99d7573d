-- What the parts of a search in a maker's pool, and of an addition to it, do.
use Rattle.std.specs.Prelude.{ℕ, ◌+◌, List, [], ◌∷◌, ◌++◌, Option, Some, None, ◌==◌, if◌then◌else◌, slice_get}
use Rattle.std.specs.Prelude.{◌≡◌, ◌-◌, ◌≤◌, length}
use Rattle.std.specs.List.{range_with_len}
use Rattle.vm_state.specs.declared.object.Object.{Object}
use Rattle.vm_state.specs.declared.object.Monitor.{Monitor}
use Rattle.vm_state.specs.declared.kept.Kept.{Kept}
use Rattle.vm_state.specs.steps.Owners.{monitor_in}
use Rattle.vm_state.specs.Objects.{HeldObjects}

-- with one more object, of the next number
abbrev pub with_next : HeldObjects → Object → HeldObjects
with_next r o = record { count = r.count + 1; objects = r.objects ++ (r.count, o) ∷ [] }

abbrev pub if_numbered : Option (ℕ × Object) → ℕ → Option Object
if_numbered None k = None
if_numbered (Some o) k = if k == o.0 then Some o.1 else None

-- the object at a place, where it has this number
abbrev pub object_at_place : List (ℕ × Object) → ℕ → ℕ → Option Object
object_at_place os place k = if_numbered (slice_get os place) k

-- ---- objects as a pool keeps them

-- the numbers of the first so many are their places; those of the others stand in a list
abbrev pub numbers_of : ℕ → List ℕ → List ℕ
numbers_of plain later = range_with_len 0 plain ++ later

abbrev pub numbers_in : List ℕ → List Kept → List ℕ
numbers_in later kept = numbers_of (length kept - length later) later

abbrev pub with_monitor_in : List (ℕ × Monitor) → ℕ → Kept → Object
with_monitor_in owners n k = record { class = k.class; slots = k.slots; monitor = monitor_in owners n }

-- the objects with their numbers
abbrev pub objects_of : List (ℕ × Monitor) → List ℕ → List Kept → List (ℕ × Object)
objects_of owners [] ks = []
objects_of owners (n ∷ ns) [] = []
objects_of owners (n ∷ ns) (k ∷ ks) = (n, with_monitor_in owners n k) ∷ objects_of owners ns ks

-- one more object at the end, of this number
pub record IsKept (later : List ℕ) (kept : List Kept) (n : ℕ) (k : Kept) (new_later : List ℕ) (new : List Kept)
    : Type 0 where
  pub numbers : numbers_in new_later new ≡ numbers_in later kept ++ n ∷ []
  pub objects : new ≡ kept ++ k ∷ []
  pub fits : length new_later ≤ length new
