-- The numbers of static fields.
use Rattle.std.proofs.Common.{◌≡◌, ℕ, zero, suc, ◌<◌, List, [], ◌∷◌, length, Some, subst}
use Rattle.std.specs.List.{AllZip}
use Rattle.std.proofs.lemmas.Option.{get_or_from_slice_get}
use Rattle.classfile.specs.ClassFile.{ClassFile}
use Rattle.loading.specs.declared.given.GivenClass.{GivenClass}
use Rattle.loading.specs.Families.{Family, file_in}
use Rattle.program.specs.Fields.{static_number_of}
use Rattle.program.specs.steps.StaticNumbers.{static_number_in, AreStaticNumbers}

-- of each of these classes the fields have their numbers
abbrev pub HaveStaticNumbers : List GivenClass → List (List ℕ) → Type 0
HaveStaticNumbers givens numbers =
    AllZip (λ (given : GivenClass) (row : List ℕ). AreStaticNumbers given.file row) givens numbers

-- the number that is looked up is the field's
pub static_number_found : (family : Family) (numbers : List (List ℕ)) (c k : ℕ) (f : ClassFile)
    → HaveStaticNumbers family numbers → file_in family c ≡ Some f
    → k < length f.fields → static_number_in numbers c k ≡ static_number_of f k
static_number_found [] numbers c k f all e small = absurd cc
static_number_found (g ∷ gs) [] c k f all e small = absurd all
static_number_found (g ∷ gs) (row ∷ rows) zero k f all e small =
    let same : g.file ≡ f = cc in
    let are : AreStaticNumbers f row = subst (λ (x : ClassFile). AreStaticNumbers x row) same all.0 in
    get_or_from_slice_get row k (static_number_of f k) 0 (are k small)
static_number_found (g ∷ gs) (row ∷ rows) (suc c) k f all e small = static_number_found gs rows c k f all.1 e small
