-- Names of classes, as they are read.
use Rattle.std.proofs.Common.{◌≡◌, ℕ, ◌<◌, List, length, Some, refl, sym, ap, ◌∙◌, subst, get_or}
use Rattle.std.specs.Option.{option_map}
use Rattle.std.proofs.lemmas.Option.{slice_get_read}
use Rattle.classfile.specs.Units.{units_text}
use Rattle.classfile.specs.ClassFile.{ClassFile}
use Rattle.loading.specs.declared.given.GivenClass.{GivenClass}
use Rattle.loading.specs.Names.{name_of}
use Rattle.loading.specs.Families.{Family, name_in, file_in, file_of}

pub named_of_file : (family : Family) (c : ℕ) (file : ClassFile) (name read : List ℕ) → file_in family c ≡ Some file
    → read ≡ name_of file → units_text name ≡ read → name_in family c ≡ Some (units_text name)
named_of_file family c file name read at named_is text =
    ap (λ o. option_map name_of o) at ∙ ap Some (sym named_is ∙ sym text)

pub named_at : (family classes : Family) (c : ℕ) (given : GivenClass) (name read : List ℕ) → classes ≡ family
    → c < length classes → given ≡ get_or classes c given → read ≡ name_of given.file → units_text name ≡ read
    → name_in family c ≡ Some (units_text name)
named_at family classes c given name read same small is named_is text =
    subst (λ (f : Family). name_in f c ≡ Some (units_text name)) same
    (named_of_file classes c given.file name read
    (ap (λ o. file_of o) (slice_get_read classes (length classes) c given refl small is)) named_is text)
