-- The slots of objects of a class and of those below it by superclasses, and those of enums.
use Rattle.std.proofs.Common.{◌≡◌, ◌⊎◌, ℕ, zero, suc, ◌==◌, Bool, true, false, List, [], ◌∷◌, ◌++◌, map, reverse}
use Rattle.std.proofs.Common.{not, cond}
use Rattle.std.proofs.Common.{Option, Some, None, slice_get, refl, sym, ap, ◌∙◌, subst, inl, inr, eqb-true, eq-eqb}
use Rattle.std.proofs.lemmas.Bool.{and_parts, or_cases, or_left, or_right}
use Rattle.std.specs.List.{list_any, filter, flat_map, AllByRecursion, AllZip}
use Rattle.built_in.specs.declared.class_id.BuiltIn.{BuiltIn}
use Rattle.built_in.specs.declared.class_id.BuiltIn.TheVariants as builtins
use Rattle.built_in.specs.Subclasses.{is_built_in_below}
use Rattle.classfile.specs.ClassFile.{ClassFile}
use Rattle.classfile.specs.Flags.{has_flag}
use Rattle.classfile.specs.declared.member.Member.{Member}
use Rattle.loading.specs.declared.given.Superclass.{Superclass}
use Rattle.loading.specs.declared.given.Superclass.TheVariants as super
use Rattle.loading.specs.Families.{Family, IsFamily, AreParentsWithin, file_in, superclass_in, superclasses_in}
use Rattle.loading.specs.Families.{given_superclass}
use Rattle.hierarchy.specs.Initialization.{AreSuperclasses, none, next, given_superclasses}
use Rattle.hierarchy.specs.Subtypes.{last_of, end_of_chain, is_end_below}
use Rattle.hierarchy.proofs.InitializationLemmas.{superclasses_of, given-none}
use Rattle.program.specs.declared.runtime_constant.FieldKind.{FieldKind}
use Rattle.program.specs.declared.runtime_constant.FieldKind.TheVariants as kinds
use Rattle.program.specs.Fields.{has_value}
use Rattle.program.specs.Holders.{has_fields_of}
use Rattle.program.specs.InstanceFields.{is_instance_field, kind_of, own_kinds_if, is_enum, built_in_kinds}
use Rattle.program.specs.InstanceFields.{added_slots, slots_of, slots_before}
use Rattle.program.specs.Programs.{zero_of}
use Rattle.program.proofs.SlotsLemmas.{slots_whole}
use Rattle.program.proofs.SlotLawsLemmas.{superclass_first}
use Rattle.region_shape.specs.Suits.{suits}
use Rattle.region_shape.proofs.SuitsLemmas.{zero_suits}

front_kept : {A : Type 0} (xs ys : List A) (i : ℕ) (x : A) → slice_get xs i ≡ Some x → slice_get (xs ++ ys) i ≡ Some x
front_kept [] ys i x h = absurd cc
front_kept (y ∷ xs) ys zero x h = h
front_kept (y ∷ xs) ys (suc i) x h = front_kept xs ys i x h

-- ---- a class below another one has that one's slots first

given_above : (family : Family) (c d : ℕ) → superclasses_in family c ≡ d ∷ []
    → superclass_in family c ≡ Some (super.Given d)
given_above family c d e = by (superclass_in family c) e
  where
    by : (s : Option Superclass) → given_superclass s ≡ d ∷ [] → s ≡ Some (super.Given d)
    by None h = cc
    by (Some (super.Given x)) h = let same : x ≡ d = cc in ap (λ (y : ℕ). Some (super.Given y)) same
    by (Some (super.BuiltIn b)) h = cc

module _ (family : Family) (fits : IsFamily family) (within : AreParentsWithin family) where
  abbrev pub Keeps : ℕ → ℕ → Type 0
  Keeps c d =
      (i : ℕ) (kind : FieldKind) → slice_get (slots_of family d) i ≡ Some kind
      → slice_get (slots_of family c) i ≡ Some kind

  one_up : (c d : ℕ) → superclass_in family c ≡ Some (super.Given d) → Keeps c d
  one_up c d e i kind at =
      rw (superclass_first family c d fits within e)
      (front_kept (slots_of family d) (own_kinds_if (file_in family c)) i kind at)

  along : {c : ℕ} {ds : List ℕ} → AreSuperclasses family c ds → (d : ℕ) → list_any (λ e. e == d) ds ≡ true → Keeps c d
  along (none h) d is i kind at = absurd cc
  along {c} (next {d = e} {ds = ds} up rest) d is i kind at =
      one_up c e (given_above family c e up) i kind (elim (or_cases (e == d) (list_any (λ x. x == d) ds) is) [
        | inl same ↦ subst (λ (x : ℕ). slice_get (slots_of family x) i ≡ Some kind) (sym (eqb-true e d same)) at
        | inr further ↦ along rest d further i kind at
      ])

  pub holder_keeps : (c d : ℕ) → has_fields_of family c d ≡ true → Keeps c d
  holder_keeps c d is i kind at =
      elim (or_cases (c == d) (list_any (λ e. e == d) (given_superclasses family c)) is) [
        | inl same ↦ subst (λ (x : ℕ). slice_get (slots_of family x) i ≡ Some kind) (sym (eqb-true c d same)) at
        | inr above ↦ along (superclasses_of family c fits within) d above i kind at
      ]

  -- ---- enums

  last_among : (c : ℕ) (ds : List ℕ)
      → (last_of c ds ≡ c) ⊎ (list_any (λ e. e == last_of c ds) ds ≡ true)
  last_among c [] = inl refl
  last_among c (d ∷ ds) =
      inr (elim (last_among d ds) [
        | inl same ↦ or_left (d == last_of d ds) _ (eq-eqb d (last_of d ds) (sym same))
        | inr further ↦ or_right (d == last_of d ds) _ further
      ])

  is_enum_itself : (b : BuiltIn) → is_built_in_below b builtins.Enum ≡ true → is_enum b ≡ true
  is_enum_itself builtins.Enum h = refl
  is_enum_itself b h = absurd cc

  enum_below : (d : ℕ) (b : BuiltIn) → superclass_in family d ≡ Some (super.BuiltIn b) → is_enum b ≡ true
      → slots_of family d ≡ kinds.Reference ∷ kinds.Int ∷ own_kinds_if (file_in family d)
  enum_below d b e is =
      let up : given_superclasses family d ≡ [] = given-none family d (ap given_superclass e) in
      let before : slots_before family d ≡ kinds.Reference ∷ kinds.Int ∷ [] = rw (up, e, is) refl in
      slots_whole family d ∙ ap (λ ks. ks ++ own_kinds_if (file_in family d)) before

  pub enum_slots : (c : ℕ) → is_end_below builtins.Enum (end_of_chain family c) ≡ true
      → (slice_get (slots_of family c) 0 ≡ Some kinds.Reference) × (slice_get (slots_of family c) 1 ≡ Some kinds.Int)
  enum_slots c is = by (end_of_chain family c) refl is
    where
      top : ℕ
      top = last_of c (given_superclasses family c)

      by : (s : Option Superclass) → superclass_in family top ≡ s → is_end_below builtins.Enum s ≡ true
          → (slice_get (slots_of family c) 0 ≡ Some kinds.Reference)
          × (slice_get (slots_of family c) 1 ≡ Some kinds.Int)
      by None e h = absurd cc
      by (Some (super.Given d)) e h = absurd cc
      by (Some (super.BuiltIn b)) e h =
          let first = enum_below top b e (is_enum_itself b h) in
          let keeps : Keeps c top = elim (last_among c (given_superclasses family c)) [
            | inl same ↦ (λ i kind at.
                subst (λ (x : ℕ). slice_get (slots_of family x) i ≡ Some kind) same at)
            | inr above ↦ along (superclasses_of family c fits within) top above
          ] in
          (keeps 0 kinds.Reference (rw first refl), keeps 1 kinds.Int (rw first refl))

-- ---- what a new object holds

abbrev HaveValues : List FieldKind → Type 0
HaveValues ks = AllByRecursion (λ k. has_value k ≡ true) ks

both_have : (xs ys : List FieldKind) → HaveValues xs → HaveValues ys → HaveValues (xs ++ ys)
both_have [] ys h k = k
both_have (x ∷ xs) ys h k = (h.0, both_have xs ys h.1 k)

built_in_have : (s : Option Superclass) → HaveValues (built_in_kinds s)
built_in_have None = tt
built_in_have (Some (super.Given d)) = tt
built_in_have (Some (super.BuiltIn class)) = by (is_enum class)
  where
    by : (b : Bool) → HaveValues (cond b (kinds.Reference ∷ kinds.Int ∷ []) [])
    by true = (refl, (refl, tt))
    by false = tt

own_have : (f : ClassFile) (ms : List Member) → HaveValues (map (kind_of f) (filter (is_instance_field f) ms))
own_have f [] = tt
own_have f (m ∷ ms) = by (is_instance_field f m) refl (own_have f ms)
  where
    by : (b : Bool) → is_instance_field f m ≡ b → HaveValues (map (kind_of f) (filter (is_instance_field f) ms))
        → HaveValues (map (kind_of f) (filter (is_instance_field f) (m ∷ ms)))
    by true is more = rw is ((and_parts (not (has_flag m.access_flags 8)) (has_value (kind_of f m)) is).1, more)
    by false is more = rw is more

own_if_have : (o : Option ClassFile) → HaveValues (own_kinds_if o)
own_if_have None = tt
own_if_have (Some f) = own_have f f.fields

module _ (family : Family) where
  added_have : (cs : List ℕ) → HaveValues (flat_map (added_slots family) cs)
  added_have [] = tt
  added_have (c ∷ cs) =
      both_have (added_slots family c) (flat_map (added_slots family) cs)
      (both_have (built_in_kinds (superclass_in family c)) (own_kinds_if (file_in family c))
      (built_in_have (superclass_in family c)) (own_if_have (file_in family c)))
      (added_have cs)

  zeros_of : (ks : List FieldKind) → HaveValues ks → AllZip (λ kind v. suits kind v ≡ true) ks (map zero_of ks)
  zeros_of [] h = tt
  zeros_of (k ∷ ks) h = (zero_suits k h.0, zeros_of ks h.1)

  -- zero or null
  pub zeros_suit : (c : ℕ)
      → AllZip (λ kind v. suits kind v ≡ true) (slots_of family c) (map zero_of (slots_of family c))
  zeros_suit c = zeros_of (slots_of family c) (added_have (reverse (c ∷ given_superclasses family c)))
