-- Slots of objects, class by class.
use Rattle.std.proofs.Common.{◌≡◌, ◌≢◌, ◌⊎◌, ℕ, zero, suc, ◌+◌, ◌*◌, ◌<◌, ◌≤◌, Bool, true, false, cond}
use Rattle.std.proofs.Common.{List, [], ◌∷◌, ◌++◌, length, reverse, take, Option, Some, None, slice_get, slice_set}
use Rattle.std.proofs.Common.{get_or, refl, sym, ap, ◌∙◌, subst, append_assoc, append-nil, inl, inr, arith}
use Rattle.std.specs.List.{Contains, flat_map}
use Rattle.std.specs.Prelude.{slice_index_or}
use Rattle.std.proofs.lemmas.Bool.{cases_eq, cases_lt}
use Rattle.std.proofs.lemmas.Grind.{flat_map-append}
use Rattle.std.proofs.lemmas.List.{reverse-append, length-append, get_or_past, get_or_default, take_more}
use Rattle.std.proofs.lemmas.List.{get_or-set_same, get_or-set_other}
use Rattle.std.proofs.lemmas.List.Elements.{Contains-append_right, Contains-push_cases}
use Rattle.std.proofs.lemmas.Option.{slice_get_past}
use Rattle.loading.specs.declared.given.Superclass.{Superclass}
use Rattle.loading.specs.declared.given.Superclass.TheVariants as super
use Rattle.loading.specs.Families.{Family, IsFamily, AreParentsWithin, file_in, superclass_in, superclasses_in}
use Rattle.loading.specs.Families.{IsParentsFirst, given_superclass, interfaces_in, parents_in}
use Rattle.hierarchy.specs.Initialization.{nearest_superclasses, given_superclasses}
use Rattle.hierarchy.proofs.InitializationLemmas.{given-next, given-none}
use Rattle.program.specs.declared.runtime_constant.FieldKind.{FieldKind}
use Rattle.program.specs.declared.runtime_constant.FieldKind.TheVariants as kinds
use Rattle.program.specs.declared.slots.SlotChain.{SlotChain}
use Rattle.program.specs.InstanceFields.{is_enum, own_kinds_if, built_in_kinds, added_slots, slots_of, slots_before}
use Rattle.program.specs.steps.Slots.{AreAddedBy, given_class, slots_if, slots_above, IsChain, chain_in}
use Rattle.program.specs.steps.Slots.{no_chain, AreChains}
use Rattle.program.proofs.ZipLemmas.{item_at}

-- ---- the slots of a class and those of its superclass

pub flat_map_back : {X A : Type 0} (f : X → List A) (x : X) (xs : List X)
    → flat_map f (reverse (x ∷ xs)) ≡ flat_map f (reverse xs) ++ f x
flat_map_back f x xs =
    ap (flat_map f) (reverse-append (x ∷ []) xs) ∙ flat_map-append f (reverse xs) (x ∷ [])
    ∙ ap (λ ys. flat_map f (reverse xs) ++ ys) (append-nil (f x))

-- each class has a given superclass, or none
above_cases : (family : Family) (c : ℕ) → ((d : ℕ) × (superclass_in family c ≡ Some (super.Given d)))
    ⊎ ((given_class (superclass_in family c) ≡ None) × (superclasses_in family c ≡ []))
above_cases family c = by (superclass_in family c) refl
  where
    by : (s : Option Superclass) → superclass_in family c ≡ s
        → ((d : ℕ) × (superclass_in family c ≡ Some (super.Given d)))
        ⊎ ((given_class (superclass_in family c) ≡ None) × (superclasses_in family c ≡ []))
    by None e = inr (ap given_class e, ap given_superclass e)
    by (Some (super.Given d)) e = inl (d, e)
    by (Some (super.BuiltIn class)) e = inr (ap given_class e, ap given_superclass e)

module _ (family : Family) (fits : IsFamily family) (within : AreParentsWithin family) (c : ℕ) where
  abbrev those : List ℕ → List FieldKind
  those cs = flat_map (added_slots family) (reverse cs)

  those_above : those (given_superclasses family c) ≡ slots_above family c
  those_above = elim (above_cases family c) [
    | inl (d, e) ↦ ap those (given-next family c d fits within e) ∙ sym (ap (λ s. slots_if family (given_class s)) e)
    | inr (none, empty) ↦ ap those (given-none family c empty) ∙ sym (ap (slots_if family) none)
  ]

  pub slots_split : slots_of family c ≡ slots_above family c ++ added_slots family c
  slots_split =
      flat_map_back (added_slots family) c (given_superclasses family c)
      ∙ ap (λ s. s ++ added_slots family c) those_above

  pub before_split : slots_before family c ≡ slots_above family c ++ built_in_kinds (superclass_in family c)
  before_split = ap (λ s. s ++ built_in_kinds (superclass_in family c)) those_above

pub slots_whole : (family : Family) (c : ℕ)
    → slots_of family c ≡ slots_before family c ++ own_kinds_if (file_in family c)
slots_whole family c =
    let upper = flat_map (added_slots family) (reverse (given_superclasses family c)) in
    flat_map_back (added_slots family) c (given_superclasses family c)
    ∙ sym (append_assoc upper (built_in_kinds (superclass_in family c)) (own_kinds_if (file_in family c)))

-- ---- there are less than 2 ^ 32

built_in_few : (s : Option Superclass) → length (built_in_kinds s) ≤ 2
built_in_few None = omega arith
built_in_few (Some (super.Given d)) = omega arith
built_in_few (Some (super.BuiltIn class)) = by (is_enum class)
  where
    by : (b : Bool) → length (cond b (kinds.Reference ∷ kinds.Int ∷ []) []) ≤ 2
    by true = omega arith
    by false = omega arith

module _ (family : Family) (few : (c : ℕ) → length (own_kinds_if (file_in family c)) < 65536) where
  added_length : (c : ℕ) → length (added_slots family c)
      ≡ length (built_in_kinds (superclass_in family c)) + length (own_kinds_if (file_in family c))
  added_length c = length-append (built_in_kinds (superclass_in family c)) (own_kinds_if (file_in family c))

  pub added_few : (c : ℕ) → length (added_slots family c) ≤ 65537
  added_few c = omega (arith, added_length c, built_in_few (superclass_in family c), few c)

  below_given : (c d : ℕ) → superclass_in family c ≡ Some (super.Given d) → length (added_slots family c) ≤ 65535
  below_given c d e =
      let none : length (built_in_kinds (superclass_in family c)) ≡ 0 = ap (λ s. length (built_in_kinds s)) e in
      omega (arith, added_length c, none, few c)

  abbrev count : List ℕ → ℕ
  count cs = length (flat_map (added_slots family) (reverse cs))

  count_back : (c : ℕ) (cs : List ℕ) → count (c ∷ cs) ≡ count cs + length (added_slots family c)
  count_back c cs =
      ap length (flat_map_back (added_slots family) c cs)
      ∙ length-append (flat_map (added_slots family) (reverse cs)) (added_slots family c)

  few_among : (n c : ℕ) → count (c ∷ nearest_superclasses n family c) ≤ 65535 * n + 65537
  few_among zero c = omega (arith, count_back c [], added_few c)
  few_among (suc n) c = elim (above_cases family c) [
    | inl (d, e) ↦ (let next : nearest_superclasses (suc n) family c ≡ d ∷ nearest_superclasses n family d =
        ap (flat_map (λ d. d ∷ nearest_superclasses n family d)) (ap given_superclass e)
        ∙ append-nil (d ∷ nearest_superclasses n family d) in
        omega (
          arith,
          count_back c (nearest_superclasses (suc n) family c),
          ap count next,
          few_among n d,
          below_given c d e,
        ))
    | inr (none, empty) ↦ (let next : nearest_superclasses (suc n) family c ≡ [] =
        ap (flat_map (λ d. d ∷ nearest_superclasses n family d)) empty in
        omega (arith, count_back c (nearest_superclasses (suc n) family c), ap count next, added_few c))
  ]

  pub slots_few : (c : ℕ) → length family ≤ 65535 → length (slots_of family c) < 4294967296
  slots_few c classes = omega (arith, few_among (length family) c, classes)

-- ---- what each class adds

pub few_added : (family : Family) (added : List (List FieldKind)) → AreAddedBy family added → (c : ℕ)
    → length (own_kinds_if (file_in family c)) < 65536
few_added [] [] all c = omega arith
few_added [] (a ∷ added) all c = absurd all
few_added (g ∷ family) [] all c = absurd all
few_added (g ∷ family) (a ∷ added) all zero = all.0.few
few_added (g ∷ family) (a ∷ added) all (suc c) = few_added family added all.1 c

pub added_at : (family : Family) (added : List (List FieldKind)) → AreAddedBy family added → (c : ℕ)
    → slice_index_or added c [] ≡ added_slots family c
added_at [] [] all c = refl
added_at [] (a ∷ added) all c = absurd all
added_at (g ∷ family) [] all c = absurd all
added_at (g ∷ family) (a ∷ added) all zero = all.0.slots
added_at (g ∷ family) (a ∷ added) all (suc c) = added_at family added all.1 c

-- ---- chains

no_items : {A : Type 0} (xs : List A) → length xs ≡ 0 → xs ≡ []
no_items [] e = refl
no_items (x ∷ xs) e = absurd (omega (arith, e))

module _ (family : Family) (fits : IsFamily family) (within : AreParentsWithin family) where
  -- a class that adds nothing has the chain of its superclass
  pub chain_kept : (c : ℕ) (chain : SlotChain) → IsChain family (slots_above family c) chain
      → length (added_slots family c) ≡ 0 → IsChain family (slots_of family c) chain
  chain_kept c chain is none =
      let whole : slots_of family c ≡ slots_above family c =
      slots_split family fits within c ∙ ap (λ s. slots_above family c ++ s) (no_items (added_slots family c) none)
      ∙ append-nil (slots_above family c) in
      subst (λ s. IsChain family s chain) (sym whole) is

  pub chain_more : (c count : ℕ) (chain : SlotChain) → IsChain family (slots_above family c) chain
      → 0 < length (added_slots family c) → count ≡ chain.count + length (added_slots family c)
      → IsChain family (slots_of family c) (record { count = count; nearest = Some c })
  chain_more c count chain is some counted = record {
    count = counted ∙ ap (λ n. n + length (added_slots family c)) is.count
        ∙ sym (ap length (slots_split family fits within c)
        ∙ length-append (slots_above family c) (added_slots family c));
    nearest = refl;
    adds = λ d e. let same_class : c ≡ d = cc in subst (λ d. 0 < length (added_slots family d)) same_class some;
  }

  -- of no class
  past_slots : (c : ℕ) → length family ≤ c → slots_of family c ≡ []
  past_slots c past =
      let none = slice_get_past family c past in
      slots_split family fits within c ∙ rw none refl

  pub all_chains : (order : List ℕ) (chains : List SlotChain) → length chains ≡ length family
      → ((c : ℕ) → c < length family → Contains order c)
      → ((c : ℕ) → Contains order c → IsChain family (slots_of family c) (chain_in chains c))
      → AreChains family chains
  all_chains order chains count whole are c = elim (cases_lt c (length family)) [
    | inl small ↦ are c (whole c small)
    | inr past ↦ (let out : chain_in chains c ≡ no_chain = get_or_past chains c no_chain (omega (arith, count, past)) in
        rw (out, past_slots c past) record { count = refl; nearest = refl; adds = λ d e. absurd cc })
  ]

-- one more class, in an order of the classes, has its chain
pub chains_next : (family : Family) (order : List ℕ) (chains new : List SlotChain) (i class : ℕ) (chain : SlotChain)
    → i < length order → class ≡ get_or order i 0 → class < length chains → new ≡ slice_set chains class chain
    → IsChain family (slots_of family class) chain
    → ((c : ℕ) → Contains (take i order) c → IsChain family (slots_of family c) (chain_in chains c)) → (c : ℕ)
    → Contains (take (i + 1) order) c → IsChain family (slots_of family c) (chain_in new c)
chains_next family order chains new i class chain small at room set is were c there = elim (cases_eq c class) [
  | inl same_class ↦ rw (set, same_class, get_or-set_same chains class chain no_chain room) is
  | inr other ↦ rw (set, get_or-set_other chains class c chain no_chain other) (were c (before other))
]
  where
    before : c ≢ class → Contains (take i order) c
    before other =
        elim (Contains-push_cases (take i order) (get_or order i 0) c (rw (take_more order i 0 small) at there)) [
          | inl first ↦ first
          | inr last ↦ absurd (other (sym (at ∙ last)))
        ]

-- the superclass of a class in the order has its chain
pub chain_came : (family : Family) (order : List ℕ) (chains : List SlotChain) (i class : ℕ)
    → IsParentsFirst family order → i < length order → class ≡ get_or order i 0
    → ((c : ℕ) → Contains (take i order) c → IsChain family (slots_of family c) (chain_in chains c)) → (d : ℕ)
    → superclass_in family class ≡ Some (super.Given d) → IsChain family (slots_of family d) (chain_in chains d)
chain_came family order chains i class first small at were d e =
    let entry : slice_get order i ≡ Some class =
    item_at order i class small (at ∙ get_or_default order i 0 class small) in
    let parent : Contains (parents_in family class) d =
    Contains-append_right (interfaces_in family class) (superclasses_in family class) d
    (subst (λ (ds : List ℕ). Contains ds d) (sym (ap given_superclass e)) (0, omega arith, refl)) in
    were d (first.after i class d entry parent)

-- ---- room for their numbers

module _ (family : Family) (fits : IsFamily family) (within : AreParentsWithin family)
    (added : List (List FieldKind)) (all : AreAddedBy family added) (classes : length family ≤ 65535) (c : ℕ) where
  pub whole_few : length (slots_of family c) < 4294967296
  whole_few = slots_few family (few_added family added all) c classes

  pub added_room : length (slots_above family c) + length (added_slots family c) < 4294967296
  added_room =
      omega (
        arith,
        whole_few,
        ap length (slots_split family fits within c),
        length-append (slots_above family c) (added_slots family c),
      )

  pub before_length : length (slots_above family c) + length (built_in_kinds (superclass_in family c))
      ≡ length (slots_before family c)
  before_length =
      sym (ap length (before_split family fits within c)
      ∙ length-append (slots_above family c) (built_in_kinds (superclass_in family c)))
