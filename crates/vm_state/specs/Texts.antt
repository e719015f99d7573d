-- What is printed of a boolean.
use Rattle.std.specs.Prelude.{ℕ, Bool, List, codes, if◌then◌else◌}

abbrev pub boolean_text : Bool → List ℕ
boolean_text value = if value then codes "true" else codes "false"
