-- The texts that are held.
use Rattle.std.specs.Prelude.{ℕ, List, [], Option, Some, None, map, string_bytes}
use Rattle.std.specs.Global.{Vec, Global}
use Rattle.std.specs.declared.string.String.{String}

abbrev pub Text : Type 0
Text = String Global

abbrev pub texts_if : Option (Vec Text) → List (List ℕ)
texts_if None = []
texts_if (Some texts) = map string_bytes texts.items
