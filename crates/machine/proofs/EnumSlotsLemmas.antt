-- In objects of a class below Enum the fields of its classes come after the name and the ordinal.
use Rattle.std.proofs.Common.{◌≡◌, ◌⊎◌, ℕ, zero, suc, ◌+◌, ◌==◌, ◌≤◌, true, false, List, [], ◌∷◌, ◌++◌, length}
use Rattle.std.proofs.Common.{reverse, take, Option, Some, None, slice_get, refl, sym, ap, ◌∙◌, subst, inl, inr, arith}
use Rattle.std.proofs.Common.{eqb-true, append-nil}
use Rattle.std.proofs.lemmas.Bool.{or_cases}
use Rattle.std.proofs.lemmas.List.{length-append}
use Rattle.std.specs.List.{list_any, flat_map, count_by}
use Rattle.built_in.specs.declared.class_id.BuiltIn.{BuiltIn}
use Rattle.built_in.specs.declared.class_id.BuiltIn.TheVariants as builtins
use Rattle.built_in.specs.Subclasses.{is_built_in_below}
use Rattle.classfile.specs.ClassFile.{ClassFile}
use Rattle.classfile.specs.declared.member.Member.{Member}
use Rattle.loading.specs.declared.given.Superclass.{Superclass}
use Rattle.loading.specs.declared.given.Superclass.TheVariants as super
use Rattle.loading.specs.Families.{Family, file_in, superclass_in, superclasses_in, given_superclass}
use Rattle.hierarchy.specs.Initialization.{nearest_superclasses, given_superclasses}
use Rattle.hierarchy.specs.Subtypes.{last_of, end_of_chain, is_end_below}
use Rattle.program.specs.declared.runtime_constant.FieldKind.{FieldKind}
use Rattle.program.specs.Holders.{has_fields_of}
use Rattle.program.specs.InstanceFields.{is_instance_field, own_kinds_if, is_enum, built_in_kinds, added_slots}
use Rattle.program.specs.InstanceFields.{slots_before, slot_after, slot_in, slot_of}
use Rattle.program.proofs.SlotsLemmas.{flat_map_back}

is_enum_itself : (b : BuiltIn) → is_built_in_below b builtins.Enum ≡ true → is_enum b ≡ true
is_enum_itself builtins.Enum h = refl
is_enum_itself b h = absurd cc

module _ (family : Family) where
  -- ---- the chain of superclasses

  above_cases : (c : ℕ) → ((d : ℕ) × (superclass_in family c ≡ Some (super.Given d))) ⊎ (superclasses_in family c ≡ [])
  above_cases c = by (superclass_in family c) refl
    where
      by : (s : Option Superclass) → superclass_in family c ≡ s
          → ((d : ℕ) × (superclass_in family c ≡ Some (super.Given d))) ⊎ (superclasses_in family c ≡ [])
      by None e = inr (ap given_superclass e)
      by (Some (super.Given d)) e = inl (d, e)
      by (Some (super.BuiltIn b)) e = inr (ap given_superclass e)

  none_near : (n c : ℕ) → superclasses_in family c ≡ [] → nearest_superclasses n family c ≡ []
  none_near zero c e = refl
  none_near (suc n) c e = ap (flat_map (λ d. d ∷ nearest_superclasses n family d)) e

  next_near : (n c d : ℕ) → superclass_in family c ≡ Some (super.Given d)
      → nearest_superclasses (suc n) family c ≡ d ∷ nearest_superclasses n family d
  next_near n c d e =
      ap (flat_map (λ d. d ∷ nearest_superclasses n family d)) (ap given_superclass e)
      ∙ append-nil (d ∷ nearest_superclasses n family d)

  -- Enum stands above the last of so many superclasses of a class
  abbrev Reaches : ℕ → ℕ → Type 0
  Reaches n c = is_end_below builtins.Enum (superclass_in family (last_of c (nearest_superclasses n family c))) ≡ true

  reaches_next : (n c d : ℕ) → superclass_in family c ≡ Some (super.Given d) → Reaches n d → Reaches (suc n) c
  reaches_next n c d e h =
      subst (λ (ds : List ℕ). is_end_below builtins.Enum (superclass_in family (last_of c ds)) ≡ true)
      (sym (next_near n c d e)) h

  reaches_up : (n c d : ℕ) → superclass_in family c ≡ Some (super.Given d) → Reaches n c
      → (k : ℕ) × (n ≡ suc k) × Reaches k d
  reaches_up zero c d e h = (let clash : false ≡ true = sym (ap (is_end_below builtins.Enum) e) ∙ h in absurd cc)
  reaches_up (suc n) c d e h = (
    n,
    refl,
    subst (λ (ds : List ℕ). is_end_below builtins.Enum (superclass_in family (last_of c ds)) ≡ true)
        (next_near n c d e) h,
  )

  reaches_here : (n c : ℕ) → superclasses_in family c ≡ [] → Reaches n c
      → is_end_below builtins.Enum (superclass_in family c) ≡ true
  reaches_here n c e h =
      subst (λ (ds : List ℕ). is_end_below builtins.Enum (superclass_in family (last_of c ds)) ≡ true)
      (none_near n c e) h

  reaches_all : (m c : ℕ) → superclasses_in family c ≡ [] → is_end_below builtins.Enum (superclass_in family c) ≡ true
      → Reaches m c
  reaches_all m c e h =
      subst (λ (ds : List ℕ). is_end_below builtins.Enum (superclass_in family (last_of c ds)) ≡ true)
      (sym (none_near m c e)) h

  -- so it is with more
  reaches_more : (n m c : ℕ) → n ≤ m → Reaches n c → Reaches m c
  reaches_more zero m c few h = elim (above_cases c) [
    | inl (d, e) ↦ (let up = reaches_up zero c d e h in absurd (omega (arith, up.1)))
    | inr e ↦ reaches_all m c e (reaches_here zero c e h)
  ]
  reaches_more (suc n) zero c few h = absurd (omega (arith, few))
  reaches_more (suc n) (suc m) c few h = elim (above_cases c) [
    | inl (d, e) ↦
        let up = reaches_up (suc n) c d e h in
        let same : up.0 ≡ n = omega (arith, up.1) in
        reaches_next m c d e
        (reaches_more n m d (omega (arith, few)) (subst (λ (y : ℕ). Reaches y d) same up.2))
    | inr e ↦ reaches_all (suc m) c e (reaches_here (suc n) c e h)
  ]

  -- and of each of these superclasses
  reaches_among : (n c x : ℕ) → Reaches n c → list_any (λ e. e == x) (nearest_superclasses n family c) ≡ true
      → Reaches n x
  reaches_among zero c x h is = absurd cc
  reaches_among (suc n) c x h is = elim (above_cases c) [
    | inr e ↦
        (let clash : false ≡ true = sym (ap (list_any (λ e. e == x)) (none_near (suc n) c e)) ∙ is in absurd cc)
    | inl (d, e) ↦
        let up = reaches_up (suc n) c d e h in
        let same : up.0 ≡ n = omega (arith, up.1) in
        let there : Reaches n d = subst (λ (y : ℕ). Reaches y d) same up.2 in
        let among : list_any (λ e. e == x) (d ∷ nearest_superclasses n family d) ≡ true =
        sym (ap (list_any (λ e. e == x)) (next_near n c d e)) ∙ is in
        reaches_more n (suc n) x (omega arith)
        (elim (or_cases (d == x) (list_any (λ e. e == x) (nearest_superclasses n family d)) among) [
          | inl here ↦ subst (λ (y : ℕ). Reaches n y) (eqb-true d x here) there
          | inr further ↦ reaches_among n d x there further
        ])
  ]

  holder_reaches : (c d : ℕ) → has_fields_of family c d ≡ true
      → is_end_below builtins.Enum (end_of_chain family c) ≡ true → Reaches (length family) d
  holder_reaches c d is below =
      elim (or_cases (c == d) (list_any (λ e. e == d) (given_superclasses family c)) is) [
        | inl same ↦ subst (λ (y : ℕ). Reaches (length family) y) (eqb-true c d same) below
        | inr above ↦ reaches_among (length family) c d below above
      ]

  -- ---- the slots that stand before a class's own

  abbrev before : ℕ → ℕ → List FieldKind
  before n c =
      flat_map (added_slots family) (reverse (nearest_superclasses n family c))
      ++ built_in_kinds (superclass_in family c)

  top_before : (n c : ℕ) (s : Option Superclass) → superclass_in family c ≡ s → is_end_below builtins.Enum s ≡ true
      → 2 ≤ length (before n c)
  top_before n c None e is = absurd cc
  top_before n c (Some (super.Given d)) e is = absurd cc
  top_before n c (Some (super.BuiltIn b)) e is =
      let two : length (built_in_kinds (superclass_in family c)) ≡ 2 = rw (e, is_enum_itself b is) refl in
      omega (
        arith,
        two,
        length-append (flat_map (added_slots family) (reverse (nearest_superclasses n family c)))
            (built_in_kinds (superclass_in family c)),
      )

  more_before : (n c d : ℕ) → superclass_in family c ≡ Some (super.Given d) → 2 ≤ length (before n d)
      → 2 ≤ length (before (suc n) c)
  more_before n c d e two =
      let upper = flat_map (added_slots family) (reverse (nearest_superclasses n family d)) in
      let kinds = built_in_kinds (superclass_in family d) in
      let own = own_kinds_if (file_in family d) in
      let all = flat_map (added_slots family) (reverse (nearest_superclasses (suc n) family c)) in
      let split : all ≡ upper ++ (kinds ++ own) =
      ap (λ (ds : List ℕ). flat_map (added_slots family) (reverse ds)) (next_near n c d e)
      ∙ flat_map_back (added_slots family) d (nearest_superclasses n family d) in
      omega (
        arith,
        two,
        ap length split,
        length-append upper (kinds ++ own),
        length-append kinds own,
        length-append upper kinds,
        length-append all (built_in_kinds (superclass_in family c)),
      )

  two_before : (n c : ℕ) → Reaches n c → 2 ≤ length (before n c)
  two_before zero c h = top_before zero c (superclass_in family c) refl h
  two_before (suc n) c h = elim (above_cases c) [
    | inl (d, e) ↦
        let up = reaches_up (suc n) c d e h in
        let same : up.0 ≡ n = omega (arith, up.1) in
        more_before n c d e (two_before n d (subst (λ (y : ℕ). Reaches y d) same up.2))
    | inr e ↦ top_before (suc n) c (superclass_in family c) refl (reaches_here (suc n) c e h)
  ]

  -- a field's slot comes after these
  pub field_past : (c d k : ℕ) (f : ClassFile) (m : Member) → file_in family d ≡ Some f → slice_get f.fields k ≡ Some m
      → has_fields_of family c d ≡ true → is_end_below builtins.Enum (end_of_chain family c) ≡ true
      → 2 ≤ slot_of family d k
  field_past c d k f m file at is below =
      let front = length (slots_before family d) in
      let slot : slot_of family d k ≡ front + count_by (is_instance_field f) (take k f.fields) =
      ap (λ o. slot_in front o k) file ∙ ap (slot_after front f k) at in
      omega (arith, slot, two_before (length family) d (holder_reaches c d is below))
