-- The static fields of a linked program hold no objects at first, and its mains are no class initialization methods.
use Rattle.std.proofs.Common.{◌≡◌, ℕ, Bool, true, false, List, [], ◌∷◌, length, map, Option, Some, None}
use Rattle.std.proofs.Common.{slice_get, codes, refl, sym, ap}
use Rattle.std.proofs.Common.{◌∙◌, subst, arith}
use Rattle.std.specs.List.{AllByRecursion}
use Rattle.std.specs.Str.{bytes_eq}
use Rattle.std.proofs.lemmas.Option.{same_Some}
use Rattle.std.proofs.lemmas.Slice.Eq.{bytes_eq-Decides}
use Rattle.classfile.specs.Flags.{has_flag}
use Rattle.classfile.specs.ClassFile.{ClassFile}
use Rattle.classfile.specs.Members.{code_among, value_among}
use Rattle.classfile.specs.declared.member.Member.{Member}
use Rattle.vm_state.specs.declared.value.Value.{Value}
use Rattle.vm_state.specs.Values.{name_of}
use Rattle.semantics.specs.Lawful.{HoldsNoName}
use Rattle.program.specs.declared.class.Class.{Class}
use Rattle.program.specs.declared.runtime_constant.RuntimeConstant.{RuntimeConstant}
use Rattle.program.specs.declared.runtime_constant.RuntimeConstant.TheVariants as runtime
use Rattle.program.specs.declared.runtime_constant.FieldKind.{FieldKind}
use Rattle.program.specs.declared.runtime_constant.FieldKind.TheVariants as kinds
use Rattle.loading.specs.declared.given.GivenClass.{GivenClass}
use Rattle.loading.specs.Names.{text_at}
use Rattle.program.specs.Fields.{field_kind, statics_of}
use Rattle.program.specs.Programs.{zero_of, value_of_constant, constant_value_at}
use Rattle.program.specs.Programs.{constant_value_of, static_field, is_main, main_of, is_initializer}
use Rattle.program.specs.Programs.{initializer_of, IsLinkedClass, IsProgram}
use Rattle.program.specs.Tables.{Tables, statics_if, statics_in, main_if, main_in, initializer_if, initializer_in}
use Rattle.std.specs.Option.{is_some}
use Rattle.machine.proofs.ListLemmas.{left_of_pair, first_passes, second_of_three, third_of_four}

-- ---- static fields

pub plain_zero : (kind : FieldKind) → name_of (zero_of kind) ≡ None
plain_zero kinds.Boolean = refl
plain_zero kinds.Byte = refl
plain_zero kinds.Char = refl
plain_zero kinds.Short = refl
plain_zero kinds.Int = refl
plain_zero kinds.Long = refl
plain_zero kinds.Float = refl
plain_zero kinds.Double = refl
plain_zero kinds.Reference = refl

plain_value : (kind : FieldKind) (o : Option RuntimeConstant) (v : Value) → value_of_constant kind o ≡ Some v
    → name_of v ≡ None
plain_value kind (Some (runtime.Int n)) v e = ap name_of (sym (same_Some _ v e))
plain_value kind (Some (runtime.Long n)) v e = ap name_of (sym (same_Some _ v e))
plain_value kind (Some (runtime.String n)) v e = ap name_of (sym (same_Some _ v e))
plain_value kind (Some other) v e = absurd cc
plain_value kind None v e = absurd cc

plain_at : (pool : List RuntimeConstant) (kind : FieldKind) (o : Option ℕ) (v : Value)
    → constant_value_at pool kind o ≡ Some v → name_of v ≡ None
plain_at pool kind None v e = absurd cc
plain_at pool kind (Some index) v e = plain_value kind (slice_get pool index) v e

plain_constant : (pool : List RuntimeConstant) (kind : FieldKind) (m : Member) (v : Value)
    → constant_value_of pool kind m ≡ Some v → name_of v ≡ None
plain_constant pool kind m v e = by (has_flag m.access_flags 16) refl
  where
    by : (b : Bool) → has_flag m.access_flags 16 ≡ b → name_of v ≡ None
    by true final = plain_at pool kind (value_among m.attributes) v (rw final at e)
    by false other = let none : None ≡ Some v = rw other at e in absurd cc

all_plain : (f : ClassFile) (pool : List RuntimeConstant) (ms : List Member)
    → AllByRecursion HoldsNoName (map (static_field f pool) ms)
all_plain f pool [] = tt
all_plain f pool (m ∷ ms) = (
  (plain_zero (field_kind (text_at f m.descriptor)), plain_constant pool (field_kind (text_at f m.descriptor)) m),
  all_plain f pool ms,
)

-- what a class of a linked program is made of
abbrev pub IsClassIn : Tables → GivenClass → Class → Type 0
IsClassIn P given class = IsLinkedClass P.family P.strings given.file class

pub plain_statics : (P : Tables) → IsProgram P → (c : ℕ) → AllByRecursion HoldsNoName (statics_in P c)
plain_statics P is c = by (slice_get P.classes c) refl
  where
    by : (o : Option Class) → slice_get P.classes c ≡ o → AllByRecursion HoldsNoName (statics_if o)
    by None there = tt
    by (Some class) there =
        let found = left_of_pair (IsClassIn P) P.family P.classes c class is.classes there in
        subst (AllByRecursion HoldsNoName) (sym found.2.statics)
        (all_plain found.0.file class.runtime_pool (statics_of found.0.file))

-- ---- mains

main_apart : (f : ClassFile) (m : ℕ) → main_of f ≡ Some m → initializer_of f ≡ Some m → ⊥
main_apart f m main initializer =
    let a = first_passes (is_main f) f.methods m main in
    let b = first_passes (is_initializer f) f.methods m initializer in
    let same : a.0 ≡ b.0 = same_Some a.0 b.0 (sym a.1 ∙ b.1) in
    let main_name : text_at f a.0.name ≡ codes "main" = (bytes_eq-Decides (text_at f a.0.name) (codes "main")).0
    (second_of_three (has_flag a.0.access_flags 8) (bytes_eq (text_at f a.0.name) (codes "main"))
    (bytes_eq (text_at f a.0.descriptor) (codes "([Ljava/lang/String;)V")) a.2) in
    let initializer_name : text_at f b.0.name ≡ codes "<clinit>" =
    (bytes_eq-Decides (text_at f b.0.name) (codes "<clinit>")).0
    (third_of_four (has_flag b.0.access_flags 8) (is_some (code_among b.0.attributes))
    (bytes_eq (text_at f b.0.name) (codes "<clinit>"))
    (bytes_eq (text_at f b.0.descriptor) (codes "()V")) b.2) in
    let clash : codes "main" ≡ codes "<clinit>" = sym main_name ∙ ap (λ (x : Member). text_at f x.name) same
    ∙ initializer_name in
    let four_is_eight : ◌≡◌ {A = ℕ} 4 8 = ap length clash in
    absurd (omega arith)

pub mains_apart : (P : Tables) → IsProgram P → (c m : ℕ) → main_in P c ≡ Some m → initializer_in P c ≡ Some m → ⊥
mains_apart P is c m = by (slice_get P.classes c) refl
  where
    by : (o : Option Class) → slice_get P.classes c ≡ o → main_if o ≡ Some m → initializer_if o ≡ Some m → ⊥
    by None there main initializer = cc
    by (Some class) there main initializer =
        let found = left_of_pair (IsClassIn P) P.family P.classes c class is.classes there in
        main_apart found.0.file m (sym found.2.main ∙ main) (sym found.2.initializer ∙ initializer)
