-- The texts of a class file by number.
use Rattle.std.specs.Prelude.{◌≡◌, ℕ, List, Some, slice_get, slice_index_or}
use Rattle.classfile.specs.ClassFile.{ClassFile}
use Rattle.loading.specs.Names.{text_at}

-- By index of a class file's constant pool: the number of the text there. Where no text stands that is 0, the number of
-- the empty text.
abbrev pub AreTextNumbers : List (List ℕ) → ClassFile → List ℕ → Type 0
AreTextNumbers texts f numbers = (index : ℕ) → slice_get texts (slice_index_or numbers index 0) ≡ Some (text_at f index)
