-- How many static fields a class has.
use Rattle.std.proofs.Common.{◌≡◌, ◌∙◌, ℕ, ◌<◌, ◌^◌, length, map, Some, None, Option, slice_get, refl, sym, subst, ap}
use Rattle.std.proofs.Common.{arith}
use Rattle.std.proofs.lemmas.List.{length-map}
use Rattle.std.proofs.lemmas.Option.{slice_get_within}
use Rattle.std.proofs.lemmas.List.Sums.{length-filter, count_by-le-length}
use Rattle.classfile.specs.ClassFile.{ClassFile}
use Rattle.loading.specs.declared.given.GivenClass.{GivenClass}
use Rattle.loading.specs.Families.{file_in, file_of}
use Rattle.program.specs.Fields.{is_static_field, statics_of}
use Rattle.program.specs.InstanceFields.{kind_of, static_kinds, static_kinds_if}
use Rattle.program.specs.declared.runtime_constant.FieldKind.{FieldKind}
use Rattle.program.specs.Programs.{static_field, IsProgram}
use Rattle.program.specs.Tables.{Tables, statics_if, statics_in}
use Rattle.program.proofs.PoolFieldsLemmas.{zip_none}
use Rattle.region_shape.specs.Shapes.{SuitsField, SuitsStatic}
use Rattle.vm_state.specs.Values.{name_of}
use Rattle.vm_state.specs.declared.value.Name.{Name}
use Rattle.vm_state.specs.declared.value.Value.{Value}
use Rattle.vm_state.specs.declared.value.Value.TheVariants.{Null}
use Rattle.machine.proofs.ListLemmas.{right_of_pair}
use Rattle.machine.proofs.LawsStaticLemmas.{IsClassIn}
use Rattle.machine.proofs.LawsFinalLemmas.{given_of}

no_file : (o : Option GivenClass) → file_of o ≡ None → o ≡ None
no_file None none = refl
no_file (Some given) none = absurd cc

module _ (P : Tables) (is : IsProgram P) (c : ℕ) where
  pub statics_few : (f : ClassFile) → file_in P.family c ≡ Some f → length f.fields < 2 ^ 16
      → length (statics_in P c) < 2 ^ 16
  statics_few f file few =
      let given = given_of (slice_get P.family c) f file in
      let class = right_of_pair (IsClassIn P) P.family P.classes c given.0 is.classes given.1 in
      let pool = class.0.runtime_pool in
      let all : statics_in P c ≡ map (static_field f pool) (statics_of f) =
      ap statics_if class.1 ∙ class.2.statics
      ∙ ap (λ (g : ClassFile). map (static_field g pool) (statics_of g)) given.2 in
      omega (
        arith,
        ap length all,
        length-map (statics_of f) (static_field f pool),
        length-filter (is_static_field f) f.fields,
        count_by-le-length (is_static_field f) f.fields,
        few,
      )

  -- as many as there are types of them
  as_many : (f : ClassFile) → file_in P.family c ≡ Some f → length (statics_in P c) ≡ length (static_kinds P.family c)
  as_many f file =
      let given = given_of (slice_get P.family c) f file in
      let class = right_of_pair (IsClassIn P) P.family P.classes c given.0 is.classes given.1 in
      let pool = class.0.runtime_pool in
      let all : statics_in P c ≡ map (static_field f pool) (statics_of f) =
      ap statics_if class.1 ∙ class.2.statics
      ∙ ap (λ (g : ClassFile). map (static_field g pool) (statics_of g)) given.2 in
      ap length all ∙ (length-map (statics_of f) (static_field f pool)
      ∙ (sym (length-map (statics_of f) (kind_of f)) ∙ ap (λ o. length (static_kinds_if o)) (sym file)))

  -- a value that is an object's name is that of a static field
  pub names_static : (k : ℕ) (v : Value) (x : Name) → SuitsStatic P c k v → name_of v ≡ Some x
      → k < length (statics_in P c)
  names_static k v x suits named = by_file (file_in P.family c) refl
    where
      no_name : v ≡ Null → ⊥
      no_name null = (let clash : None ≡ Some x = sym (ap name_of null) ∙ named in cc)

      by_kind : (f : ClassFile) → file_in P.family c ≡ Some f → (o : Option FieldKind)
          → slice_get (static_kinds P.family c) k ≡ o → SuitsField o v → k < length (statics_in P c)
      by_kind f file None none null = absurd (no_name null)
      by_kind f file (Some kind) at fits =
          let low : k < length (static_kinds P.family c) = slice_get_within (static_kinds P.family c) k kind at in
          omega (arith, low, as_many f file)

      by_file : (o : Option ClassFile) → file_in P.family c ≡ o → k < length (statics_in P c)
      by_file None none =
          absurd (no_name (subst (λ o. SuitsField (slice_get (static_kinds_if o) k) v) none suits))
      by_file (Some f) file = by_kind f file (slice_get (static_kinds P.family c) k) refl suits

  pub no_statics : file_in P.family c ≡ None → length (statics_in P c) ≡ 0
  no_statics none =
      let given : slice_get P.family c ≡ None = no_file (slice_get P.family c) none in
      let class : slice_get P.classes c ≡ None = zip_none (IsClassIn P) P.family P.classes c is.classes given in
      ap (λ o. length (statics_if o)) class
