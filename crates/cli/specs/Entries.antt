-- The names of a list of entries.
use Rattle.std.specs.Prelude.{ℕ, ◌==◌, List, map, if◌then◌else◌}
use Rattle.std.specs.List.{flat_map}
use Rattle.std.specs.Str.{chars}
use Rattle.std.specs.Char.Escape.{encode_utf16}
use Rattle.options.specs.Lists.{items_of}

-- a slash (47) for a dot (46)
abbrev pub slash_of : ℕ → ℕ
slash_of c = if c == 46 then 47 else c

-- the class name that an item spells: the UTF-16 units of its characters, with slashes for dots (JVMS 4.2.1)
abbrev pub entry_name : List ℕ → List ℕ
entry_name item = flat_map encode_utf16 (map slash_of (chars item))

-- the class names of a list: those of its items between commas
abbrev pub entry_names : List ℕ → List (List ℕ)
entry_names list = map entry_name (items_of list)
