-- The names that are looked for.
use Rattle.std.specs.Prelude.{ℕ, List, codes}

abbrev pub constant_value_name : List ℕ
constant_value_name = codes "ConstantValue"

abbrev pub code_name : List ℕ
code_name = codes "Code"

abbrev pub string_descriptor : List ℕ
string_descriptor = codes "Ljava/lang/String;"
