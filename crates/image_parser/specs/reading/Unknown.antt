-- Readers of the names of array types whose elements are of a class that is neither given nor built in.
use Rattle.std.specs.Prelude.{ℕ, ◌-◌, Bool, ◌&&◌, not, nat_lt, ◌==◌, List, length, take, drop, slice_index}
use Rattle.std.specs.Prelude.{Option, Some, None, if◌then◌else◌}
use Rattle.std.specs.List.{list_any, prefix_len}
use Rattle.classfile.specs.reading.Modified.{is_modified}

-- how many `[` stand at the front
abbrev pub brackets : List ℕ → ℕ
brackets name = prefix_len (λ b. b == 91) name

-- the name in `L` name `;`
abbrev pub object_in : List ℕ → Option (List ℕ)
object_in text =
    if nat_lt 1 (length text) && (slice_index text 0 == 76 && slice_index text (length text - 1) == 59)
    then Some (take (length text - 1 - 1) (drop 1 text)) else None

-- whether it is a name of a class, as descriptors have it
abbrev pub is_object_name : List ℕ → Bool
is_object_name name = nat_lt 0 (length name) && (not (list_any (λ b. b == 59) name) && is_modified name)

abbrev pub unknown_by : ℕ → Option (List ℕ) → Option (ℕ × List ℕ)
unknown_by d None = None
unknown_by d (Some name) =
    if nat_lt 0 d && (nat_lt d 256 && is_object_name name) then Some (d, name) else None

-- the dimensions, and the name of the elements' class
unfoldable pub unknown_of : List ℕ → Option (ℕ × List ℕ)
unknown_of name = unknown_by (brackets name) (object_in (drop (brackets name) name))
