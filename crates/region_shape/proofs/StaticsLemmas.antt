-- A region before its initializer runs has shape: each static is zero, null or a constant that suits its field.
use Rattle.std.proofs.Common.{◌≡◌, ℕ, zero, suc, Bool, true, false, cond, List, [], ◌∷◌, map}
use Rattle.std.proofs.Common.{Option, Some, None, slice_get, option_map, refl, sym, ap, ◌∙◌, subst, arith}
use Rattle.std.proofs.lemmas.Bool.{and_parts}
use Rattle.std.specs.Prelude.{unwrap_or, IsSomeAnd}
use Rattle.std.specs.List.{All, Contains, filter}
use Rattle.std.proofs.lemmas.Option.{same_Some, slice_get_within, slice_get-map, get_or_from_slice_get}
use Rattle.classfile.specs.Class.{IsClassFile}
use Rattle.classfile.specs.ClassFile.{ClassFile}
use Rattle.classfile.specs.Flags.{has_flag}
use Rattle.classfile.specs.Lookup.{utf8_of}
use Rattle.classfile.specs.Members.{value_among, IsValueOf, IsFieldAttribute, IsField}
use Rattle.classfile.specs.Pool.{IsIndexOf, IsUtf8Where}
use Rattle.classfile.specs.declared.attribute.Attribute.{Attribute}
use Rattle.classfile.specs.declared.attribute.Attribute.TheVariants as attributes
use Rattle.classfile.specs.declared.constant.Constant.{Constant}
use Rattle.classfile.specs.declared.constant.Constant.TheVariants as constants
use Rattle.classfile.specs.declared.member.Member.{Member}
use Rattle.vm_state.specs.declared.value.Value.{Value}
use Rattle.vm_state.specs.declared.value.Value.TheVariants as values
use Rattle.vm_state.specs.declared.classes.StaticField.{StaticField}
use Rattle.vm_state.specs.Statics.{constant_or, zero_of as zero_in}
use Rattle.loading.specs.Families.{Family, file_of, file_in}
use Rattle.loading.specs.Names.{text_at}
use Rattle.semantics.specs.Settling.{constant_region}
use Rattle.program.specs.declared.class.Class.{Class}
use Rattle.program.specs.declared.runtime_constant.RuntimeConstant.{RuntimeConstant}
use Rattle.program.specs.Fields.{field_kind, has_value, is_static_field, statics_of}
use Rattle.program.specs.InstanceFields.{kind_of, static_kinds_if}
use Rattle.program.specs.Programs.{zero_of, value_of_constant, constant_value_at, constant_value_of, static_field}
use Rattle.program.specs.Programs.{IsProgram}
use Rattle.program.specs.RuntimePool.{IsRuntimeConstant, IsRuntimePool, int_of_bits, long_of_halves}
use Rattle.program.specs.Tables.{Tables, statics_if, statics_in}
use Rattle.frame_instructions.specs.declared.operand_kind.OperandKind.TheVariants as operands
use Rattle.machine.specs.Linked.{program_of}
use Rattle.machine.specs.StoredKinds.{operand_kind}
use Rattle.machine.proofs.ListLemmas.{left_of_pair, right_of_pair}
use Rattle.machine.proofs.LawsStaticLemmas.{IsClassIn}
use Rattle.machine.proofs.LawsFinalLemmas.{given_of}
use Rattle.region_shape.specs.Suits.{suits}
use Rattle.region_shape.specs.Shapes.{SuitsField, SuitsStatic, HasShape}
use Rattle.region_shape.specs.Laws.{IsFromFile}
use Rattle.region_shape.proofs.SuitsLemmas.{int_suits, reference_of, long_of, zero_suits}

-- ---- the constants that a descriptor allows

by_letter : (Q : ℕ → Type 0) → Q 73 → Q 83 → Q 67 → Q 66 → Q 90 → (b : ℕ)
    → Contains (73 ∷ 83 ∷ 67 ∷ 66 ∷ 90 ∷ []) b → Q b
by_letter Q p0 p1 p2 p3 p4 b (zero, lt, e) = subst Q e p0
by_letter Q p0 p1 p2 p3 p4 b (suc zero, lt, e) = subst Q e p1
by_letter Q p0 p1 p2 p3 p4 b (suc (suc zero), lt, e) = subst Q e p2
by_letter Q p0 p1 p2 p3 p4 b (suc (suc (suc zero)), lt, e) = subst Q e p3
by_letter Q p0 p1 p2 p3 p4 b (suc (suc (suc (suc zero))), lt, e) = subst Q e p4
by_letter Q p0 p1 p2 p3 p4 b (suc (suc (suc (suc (suc k)))), lt, e) = absurd (omega (arith, lt))

int_kind : (text : List ℕ) (bits : ℕ) → IsValueOf text (constants.Integer bits)
    → operand_kind (field_kind text) ≡ Some operands.Int
int_kind text bits (letter, (among, is)) =
    ap (λ (t : List ℕ). operand_kind (field_kind t)) is
    ∙ by_letter (λ b. operand_kind (field_kind (b ∷ [])) ≡ Some operands.Int) refl refl refl refl refl letter among

-- such a constant suits the field
value_suits : {family : Family} {strings : List (List ℕ)} {f : ClassFile} {index : ℕ} {constant : Constant}
    {held : RuntimeConstant} (text : List ℕ) (v : Value) → IsRuntimeConstant family strings f index constant held
    → IsValueOf text constant → value_of_constant (field_kind text) (Some held) ≡ Some v
    → suits (field_kind text) v ≡ true
value_suits text v (IsRuntimeConstant.int {bits = bits}) of e =
    subst (λ w. suits (field_kind text) w ≡ true) (same_Some _ v e)
    (int_suits (field_kind text) (int_of_bits bits) (int_kind text bits of))
value_suits text v (IsRuntimeConstant.long {high = high} {low = low}) of e =
    subst (λ w. suits (field_kind text) w ≡ true) (same_Some _ v e)
    (long_of (field_kind text) (long_of_halves high low) (ap (λ (t : List ℕ). operand_kind (field_kind t)) of))
value_suits text v (IsRuntimeConstant.string {n = n} h) of e =
    subst (λ w. suits (field_kind text) w ≡ true) (same_Some _ v e)
    (reference_of (field_kind text) (values.Text n) (ap (λ (t : List ℕ). operand_kind (field_kind t)) of) refl)
value_suits text v IsRuntimeConstant.float of e = absurd cc
value_suits text v IsRuntimeConstant.double of e = absurd cc
value_suits text v (IsRuntimeConstant.class h) of e = absurd cc
value_suits text v (IsRuntimeConstant.field r h) of e = absurd cc
value_suits text v (IsRuntimeConstant.method h) of e = absurd cc
value_suits text v (IsRuntimeConstant.interface_method h) of e = absurd cc
value_suits text v IsRuntimeConstant.utf8 of e = absurd cc
value_suits text v IsRuntimeConstant.unusable of e = absurd cc
value_suits text v IsRuntimeConstant.name_and_type of e = absurd cc
value_suits text v IsRuntimeConstant.method_handle of e = absurd cc
value_suits text v IsRuntimeConstant.method_type of e = absurd cc
value_suits text v IsRuntimeConstant.invoke_dynamic of e = absurd cc

-- ---- lists

value_attribute : (Q : Attribute → Type 0) (all : List Attribute) (index : ℕ) → All Q all
    → value_among all ≡ Some index → (name : ℕ) × Q (attributes.ConstantValue name index)
value_attribute Q [] index h e = absurd cc
value_attribute Q (attributes.ConstantValue name value ∷ rest) index h e =
    let same : value ≡ index = same_Some value index e in
    let first = attributes.ConstantValue name value in
    (name, subst (λ (v : ℕ). Q (attributes.ConstantValue name v)) same (h 0 first (omega arith)))
value_attribute Q (attributes.Code name code ∷ rest) index h e =
    value_attribute Q rest index (λ k d lt. h (suc k) d (omega arith)) e
value_attribute Q (attributes.Unread attribute ∷ rest) index h e =
    value_attribute Q rest index (λ k d lt. h (suc k) d (omega arith)) e

-- what is kept of a list passes, and stands in it
kept_at : {X : Type 0} (p : X → Bool) (xs : List X) (k : ℕ) (x : X) → slice_get (filter p xs) k ≡ Some x
    → (p x ≡ true) × ((j : ℕ) × (slice_get xs j ≡ Some x))
kept_at p [] k x h = absurd cc
kept_at {X = X} p (y ∷ ys) k x h = by (p y) refl k h (λ i e. kept_at p ys i x e)
  where
    later : (p x ≡ true) × ((j : ℕ) × (slice_get ys j ≡ Some x))
        → (p x ≡ true) × ((j : ℕ) × (slice_get (y ∷ ys) j ≡ Some x))
    later found = (found.0, (suc found.1.0, found.1.1))

    by : (b : Bool) → p y ≡ b → (i : ℕ) → slice_get (filter p (y ∷ ys)) i ≡ Some x
        → ((i : ℕ) → slice_get (filter p ys) i ≡ Some x → (p x ≡ true) × ((j : ℕ) × (slice_get ys j ≡ Some x)))
        → (p x ≡ true) × ((j : ℕ) × (slice_get (y ∷ ys) j ≡ Some x))
    by true is zero e more =
        let here : Some y ≡ Some x = rw is at e in
        (ap p (sym (same_Some y x here)) ∙ is, (zero, here))
    by true is (suc i) e more = later (more i (rw is at e))
    by false is i e more = later (more i (rw is at e))

all_at : {X : Type 0} (Q : X → Type 0) (xs : List X) (j : ℕ) (x : X) → All Q xs → slice_get xs j ≡ Some x → Q x
all_at Q xs j x h at =
    subst Q (get_or_from_slice_get xs j x x at) (h j x (slice_get_within xs j x at))

-- ---- a field

module _ (P : Tables) (is : IsProgram P) (f : ClassFile) (file : IsClassFile f) (pool : List RuntimeConstant)
    (of : IsRuntimePool P.family P.strings f pool) where
  constant_suits : (m : Member) (index : ℕ) (v : Value) → IsField f.constants m → value_among m.attributes ≡ Some index
      → value_of_constant (kind_of f m) (slice_get pool index) ≡ Some v → suits (kind_of f m) v ≡ true
  unfolding utf8_of
  constant_suits m index v field among e =
      let attribute = value_attribute (IsFieldAttribute f.constants m.access_flags m.descriptor) m.attributes index
      field.attributes among in
      by_text (slice_get f.constants m.descriptor) refl attribute.1.2
    where
      by_held : (text : List ℕ) → text_at f m.descriptor ≡ text → (o : Option Constant)
          → slice_get f.constants index ≡ o → IsSomeAnd o (IsValueOf text) → (h : Option RuntimeConstant)
          → slice_get pool index ≡ h
          → value_of_constant (kind_of f m) h ≡ Some v → suits (kind_of f m) v ≡ true
      by_held text same None at fits h there is_value = absurd fits
      by_held text same (Some constant) at fits None there is_value = absurd cc
      by_held text same (Some constant) at fits (Some held) there is_value =
          value_suits (text_at f m.descriptor) v (of.each index constant held at there)
          (subst (λ (t : List ℕ). IsValueOf t constant) (sym same) fits) is_value

      by_text : (o : Option Constant) → slice_get f.constants m.descriptor ≡ o
          → IsSomeAnd o (IsUtf8Where (λ text. IsIndexOf (IsValueOf text) f.constants index))
          → suits (kind_of f m) v ≡ true
      by_text None at fits = absurd fits
      by_text (Some (constants.Utf8 text)) at fits =
          by_held text (rw at refl) (slice_get f.constants index) refl fits (slice_get pool index) refl e
      by_text (Some other) at fits = absurd fits

  begins_so : (m : Member) → IsField f.constants m → is_static_field f m ≡ true
      → suits (kind_of f m) (unwrap_or (constant_value_of pool (kind_of f m) m) (zero_of (kind_of f m))) ≡ true
  begins_so m field static = by (constant_value_of pool (kind_of f m) m) refl
    where
      by_value : (v : Value) (o : Option ℕ) → value_among m.attributes ≡ o
          → constant_value_at pool (kind_of f m) o ≡ Some v → suits (kind_of f m) v ≡ true
      by_value v None among e = absurd cc
      by_value v (Some index) among e = constant_suits m index v field among e

      by_flag : (v : Value) (b : Bool)
          → cond b (constant_value_at pool (kind_of f m) (value_among m.attributes)) None ≡ Some v
          → suits (kind_of f m) v ≡ true
      by_flag v true e = by_value v (value_among m.attributes) refl e
      by_flag v false e = absurd cc

      by : (o : Option Value) → constant_value_of pool (kind_of f m) m ≡ o
          → suits (kind_of f m) (unwrap_or o (zero_of (kind_of f m))) ≡ true
      by None e = zero_suits (kind_of f m) (and_parts (has_flag m.access_flags 8) (has_value (kind_of f m)) static).1
      by (Some v) e = by_flag v (has_flag m.access_flags 16) e

-- ---- the region

-- what a static field begins with, and null where there is no such field
abbrev begins_with : Option StaticField → Value
begins_with field = constant_or field (zero_in field)

module _ (P : Tables) (is : IsProgram P) (c : ℕ) (from : IsFromFile P c) where
  member_suits : (f : ClassFile) → file_in P.family c ≡ Some f → (pool : List RuntimeConstant)
      → IsRuntimePool P.family P.strings f pool → (k : ℕ) (o : Option Member) → slice_get (statics_of f) k ≡ o
      → SuitsField (option_map (kind_of f) o) (begins_with (option_map (static_field f pool) o))
  member_suits f file pool of k None at = refl
  member_suits f file pool of k (Some m) at =
      let passes = kept_at (is_static_field f) f.fields k m at in
      let whole = from f file in
      let field = all_at (IsField f.constants) f.fields passes.1.0 m whole.fields passes.1.1 in
      begins_so P is f whole pool of m field passes.0

  -- a class that is not given has no static field
  none_of : file_in P.family c ≡ None → (k : ℕ) → slice_get (statics_in P c) k ≡ None
  none_of no_file k = by (slice_get P.classes c) refl
    where
      by : (o : Option Class) → slice_get P.classes c ≡ o → slice_get (statics_if o) k ≡ None
      by None there = refl
      by (Some class) there =
          let given = left_of_pair (IsClassIn P) P.family P.classes c class is.classes there in
          let clash : None ≡ Some given.0.file = sym no_file ∙ ap file_of given.1 in
          cc

  statics_suit : (k : ℕ) → SuitsStatic P c k ((constant_region (program_of P) c).fields k)
  statics_suit k = by (file_in P.family c) refl
    where
      by : (o : Option ClassFile) → file_in P.family c ≡ o
          → SuitsField (slice_get (static_kinds_if o) k) (begins_with (slice_get (statics_in P c) k))
      by None e = rw (none_of e k) refl
      by (Some f) e =
          let given = given_of (slice_get P.family c) f e in
          let class = right_of_pair (IsClassIn P) P.family P.classes c given.0 is.classes given.1 in
          let pool = class.0.runtime_pool in
          let all : statics_in P c ≡ map (static_field f pool) (statics_of f) =
          ap statics_if class.1 ∙ class.2.statics
          ∙ ap (λ (g : ClassFile). map (static_field g pool) (statics_of g)) given.2 in
          let kinds = slice_get-map (kind_of f) (statics_of f) k in
          let fields : slice_get (statics_in P c) k ≡ option_map (static_field f pool) (slice_get (statics_of f) k) =
          ap (λ xs. slice_get xs k) all ∙ slice_get-map (static_field f pool) (statics_of f) k in
          let runtime_pool : IsRuntimePool P.family P.strings f pool =
          subst (λ (g : ClassFile). IsRuntimePool P.family P.strings g pool) given.2 class.2.runtime_pool in
          rw (kinds, fields) (member_suits f e pool runtime_pool k (slice_get (statics_of f) k) refl)

  pub first_shape : HasShape P c (constant_region (program_of P) c)
  first_shape = record {
    statics = statics_suit;
    objects = λ n o at. absurd cc;
    no_more = λ n past. refl;
  }
