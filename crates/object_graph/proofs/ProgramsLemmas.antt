-- How many classes a program has, and how many static fields a class.
use Rattle.std.proofs.Common.{◌≡◌, ◌∙◌, ℕ, length, map, Option, Some, None, slice_get, refl, sym, ap}
use Rattle.std.proofs.lemmas.List.{length-map}
use Rattle.std.proofs.lemmas.Slice.Zip.{AllZip-long}
use Rattle.classfile.specs.ClassFile.{ClassFile}
use Rattle.loading.specs.Families.{file_in}
use Rattle.program.specs.Fields.{statics_of}
use Rattle.program.specs.InstanceFields.{kind_of, static_kinds, static_kinds_if}
use Rattle.program.specs.Programs.{static_field, IsProgram}
use Rattle.program.specs.Tables.{Tables, statics_if, statics_in}
use Rattle.machine.proofs.ListLemmas.{right_of_pair}
use Rattle.machine.proofs.LawsStaticLemmas.{IsClassIn}
use Rattle.machine.proofs.LawsFinalLemmas.{given_of}
use Rattle.object_graph.proofs.StaticsLemmas.{no_statics}

pub class_count : (P : Tables) → IsProgram P → length P.classes ≡ length P.family
class_count P is = AllZip-long (IsClassIn P) P.family P.classes is.classes

module _ (P : Tables) (is : IsProgram P) (c : ℕ) where
  count_in : (f : ClassFile) → file_in P.family c ≡ Some f
      → length (statics_in P c) ≡ length (map (kind_of f) (statics_of f))
  count_in f file =
      let given = given_of (slice_get P.family c) f file in
      let class = right_of_pair (IsClassIn P) P.family P.classes c given.0 is.classes given.1 in
      let pool = class.0.runtime_pool in
      let all : statics_in P c ≡ map (static_field f pool) (statics_of f) =
      ap statics_if class.1 ∙ class.2.statics
      ∙ ap (λ (g : ClassFile). map (static_field g pool) (statics_of g)) given.2 in
      ap length all ∙ length-map (statics_of f) (static_field f pool) ∙ sym (length-map (statics_of f) (kind_of f))

  pub static_count : length (statics_in P c) ≡ length (static_kinds P.family c)
  static_count = by (file_in P.family c) refl
    where
      by : (o : Option ClassFile) → file_in P.family c ≡ o → length (statics_in P c) ≡ length (static_kinds_if o)
      by None none = no_statics P is c none
      by (Some f) file = count_in f file
