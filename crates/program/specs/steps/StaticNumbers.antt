-- Numbers of static fields as tables.
use Rattle.std.specs.Prelude.{◌≡◌, ℕ, ◌<◌, List, [], length, Some}
use Rattle.std.specs.Prelude.{slice_get, slice_index_or}
use Rattle.classfile.specs.ClassFile.{ClassFile}
use Rattle.loading.specs.Families.{Family, file_in}
use Rattle.program.specs.Fields.{static_number_of}

-- by field of a class: its number
abbrev pub AreStaticNumbers : ClassFile → List ℕ → Type 0
AreStaticNumbers f numbers = (k : ℕ) → k < length f.fields → slice_get numbers k ≡ Some (static_number_of f k)

abbrev pub static_number_in : List (List ℕ) → ℕ → ℕ → ℕ
static_number_in numbers c k = slice_index_or (slice_index_or numbers c []) k 0

-- by class: those of its fields
abbrev pub AreStaticNumbersOf : Family → List (List ℕ) → Type 0
AreStaticNumbersOf family numbers = (c k : ℕ) (f : ClassFile) → file_in family c ≡ Some f → k < length f.fields
    → static_number_in numbers c k ≡ static_number_of f k
