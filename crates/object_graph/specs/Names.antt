-- Lists of names of objects.
use Rattle.std.specs.Prelude.{◌≡◌, ℕ, List, Some, slice_get}
use Rattle.object_graph.specs.declared.name_set.ObjectName.{ObjectName}

-- no name stands at two places
abbrev pub AreDistinct : List ObjectName → Type 0
AreDistinct names =
    (i j : ℕ) (x : ObjectName) → slice_get names i ≡ Some x → slice_get names j ≡ Some x → i ≡ j
