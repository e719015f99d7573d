-- Whether static fields reach an object is decided: by way of ever more objects.
use Rattle.std.proofs.Common.{◌≡◌, ◌⊎◌, inl, inr, ℕ, zero, suc, ◌+◌, ◌<◌, ◌==◌, Bool, true, false, List, [], ◌∷◌, ◌++◌}
use Rattle.std.proofs.Common.{length, map, Option, Some, None, get_or, refl, sym, ap, subst, ◌∙◌, arith, eqb-true}
use Rattle.std.proofs.Common.{if◌then◌else◌}
use Rattle.std.specs.List.{Contains}
use Rattle.std.proofs.lemmas.List.Elements.{Contains-append_left, Contains-append_right}
use Rattle.hierarchy.proofs.AscentsOrderLemmas.{none_in_empty, in_front, in_rest, cons_cases}
use Rattle.vm_state.proofs.ListLemmas.{tested}
use Rattle.image_format.specs.Values.{ImageValue}
use Rattle.image_format.specs.Values as values
use Rattle.image_format.specs.Regions.{ImageObject, ImageRegion, KeptObject}
use Rattle.image_format.specs.Objects.{region_in, statics_of, objects_of, object_with, object_of}
use Rattle.image_format.specs.Reached.{IsReached, static, held}
use Rattle.image_format.proofs.KnownLemmas.{Known, Name, name, both_known, one_known, same_name, Some_is, some_known}
use Rattle.image_format.proofs.KnownLemmas.{contains_known, name_in, names_in}

abbrev Held : Type 0
Held = List (Option ImageRegion)

-- ---- the names of all objects, and those that statics hold

abbrev objects_from : ℕ → Held → List Name
objects_from c [] = []
objects_from c (r ∷ rs) = map (λ (kept : KeptObject). name c kept.number) (objects_of r) ++ objects_from (c + 1) rs

abbrev statics_from : Held → List Name
statics_from [] = []
statics_from (r ∷ rs) = names_in (statics_of r) ++ statics_from rs

kept_named : (c n : ℕ) (os : List KeptObject) (o : ImageObject) → object_with os n ≡ Some o
    → Contains (map (λ (kept : KeptObject). name c kept.number) os) (name c n)
kept_named c n [] o e = absurd cc
kept_named c n (k ∷ ks) o e = elim (tested (k.number == n)) [
  | inl same ↦
      let is : k.number ≡ n = eqb-true k.number n same in
      let Q : ℕ → Type 0 = λ z. Contains (map (λ (kept : KeptObject). name c kept.number) (k ∷ ks)) (name c z) in
      subst Q is (in_front (name c k.number) (map (λ (kept : KeptObject). name c kept.number) ks))
  | inr other ↦
      let later : object_with ks n ≡ Some o = rw other at e in
      in_rest (name c k.number) (map (λ (kept : KeptObject). name c kept.number) ks) (name c n)
      (kept_named c n ks o later)
]

object_named : (from : ℕ) (regions : Held) (i n : ℕ) (o : ImageObject)
    → object_with (objects_of (region_in regions i)) n ≡ Some o
    → Contains (objects_from from regions) (name (from + i) n)
object_named from [] i n o e = absurd cc
object_named from (r ∷ rs) zero n o e =
    let Q : ℕ → Type 0 = λ z. Contains (objects_from from (r ∷ rs)) (name z n) in
    subst Q (let k : from ≡ from + 0 = omega arith in k)
    (Contains-append_left (map (λ (kept : KeptObject). name from kept.number) (objects_of r))
    (objects_from (from + 1) rs)
    (name from n) (kept_named from n (objects_of r) o e))
object_named from (r ∷ rs) (suc i) n o e =
    let Q : ℕ → Type 0 = λ z. Contains (objects_from from (r ∷ rs)) (name z n) in
    subst Q (let k : from + 1 + i ≡ from + suc i = omega arith in k)
    (Contains-append_right (map (λ (kept : KeptObject). name from kept.number) (objects_of r))
    (objects_from (from + 1) rs) (name (from + 1 + i) n) (object_named (from + 1) rs i n o e))

value_named : (vs : List ImageValue) (c n : ℕ) → Contains vs (values.Object c n) → Contains (names_in vs) (name c n)
value_named [] c n h = absurd (none_in_empty (values.Object c n) h)
value_named (v ∷ vs) c n h = elim (cons_cases v vs (values.Object c n) h) [
  | inl same ↦
      let Q : ImageValue → Type 0 = λ z. Contains (name_in z ++ names_in vs) (name c n) in
      subst Q (sym same) (in_front (name c n) (names_in vs))
  | inr more ↦ Contains-append_right (name_in v) (names_in vs) (name c n) (value_named vs c n more)
]

static_named : (regions : Held) (d c n : ℕ) → Contains (statics_of (region_in regions d)) (values.Object c n)
    → Contains (statics_from regions) (name c n)
static_named [] d c n h = absurd (none_in_empty (values.Object c n) h)
static_named (r ∷ rs) zero c n h =
    Contains-append_left (names_in (statics_of r)) (statics_from rs) (name c n) (value_named (statics_of r) c n h)
static_named (r ∷ rs) (suc d) c n h =
    Contains-append_right (names_in (statics_of r)) (statics_from rs) (name c n) (static_named rs d c n h)

named_value : (v : ImageValue) (x : Name) → Contains (name_in v) x → v ≡ values.Object x.0 x.1
named_value values.Null x h = absurd (none_in_empty x h)
named_value (values.Int k) x h = absurd (none_in_empty x h)
named_value (values.Long k) x h = absurd (none_in_empty x h)
named_value (values.Text units) x h = absurd (none_in_empty x h)
named_value values.Out x h = absurd (none_in_empty x h)
named_value (values.Object c n) x h = elim (cons_cases (name c n) [] x h) [
  | inl same ↦ ap (λ (z : Name). values.Object z.0 z.1) same
  | inr none ↦ absurd (none_in_empty x none)
]

append_cases : (xs ys : List Name) (x : Name) → Contains (xs ++ ys) x → Contains xs x ⊎ Contains ys x
append_cases [] ys x h = inr h
append_cases (z ∷ zs) ys x h = elim (cons_cases z (zs ++ ys) x h) [
  | inl same ↦ inl (let Q : Name → Type 0 = λ w. Contains (z ∷ zs) w in subst Q same (in_front z zs))
  | inr more ↦ elim (append_cases zs ys x more) [
    | inl left ↦ inl (in_rest z zs x left)
    | inr right ↦ inr right
  ]
]

held_value : (vs : List ImageValue) (x : Name) → Contains (names_in vs) x → Contains vs (values.Object x.0 x.1)
held_value [] x h = absurd (none_in_empty x h)
held_value (v ∷ vs) x h = elim (append_cases (name_in v) (names_in vs) x h) [
  | inl here ↦
      let Q : ImageValue → Type 0 = λ z. Contains (v ∷ vs) z in
      subst Q (named_value v x here) (in_front v vs)
  | inr more ↦ in_rest v vs (values.Object x.0 x.1) (held_value vs x more)
]

held_static : (regions : Held) (x : Name) → Contains (statics_from regions) x
    → (d : ℕ) × Contains (statics_of (region_in regions d)) (values.Object x.0 x.1)
held_static [] x h = absurd (none_in_empty x h)
held_static (r ∷ rs) x h = elim (append_cases (names_in (statics_of r)) (statics_from rs) x h) [
  | inl here ↦ (0, held_value (statics_of r) x here)
  | inr more ↦ (let later = held_static rs x more in (suc later.0, later.1))
]

-- ---- by way of some objects

module _ (regions : Held) where
  record Holds (x y : Name) : Type 0 where
    object : ImageObject
    at : object_of regions x.0 x.1 ≡ Some object
    holds : Contains object.slots (values.Object y.0 y.1)

  holds_known_by : (x y : Name) (o : Option ImageObject) → object_of regions x.0 x.1 ≡ o → Known (Holds x y)
  holds_known_by x y None e = inr (λ h. let at = h.at in absurd cc)
  holds_known_by x y (Some object) e = elim (contains_known object.slots y.0 y.1) [
    | inl holds ↦ inl (record { object = object; at = e; holds = holds })
    | inr never ↦ inr (λ h.
        let both : Some h.object ≡ Some object = sym h.at ∙ e in
        let same : h.object ≡ object = cc in
        let Q : ImageObject → Type 0 = λ z. Contains z.slots (values.Object y.0 y.1) in
        never (subst Q same h.holds))
  ]

  abbrev Reaches : List Name → Name → Name → Type 0
  Reaches [] x y = Holds x y
  Reaches (k ∷ ks) x y = Reaches ks x y ⊎ (Reaches ks x k × Reaches ks k y)

  reach_known : (via : List Name) (x y : Name) → Known (Reaches via x y)
  reach_known [] x y = holds_known_by x y (object_of regions x.0 x.1) refl
  reach_known (k ∷ ks) x y =
      one_known (reach_known ks x y) (both_known (reach_known ks x k) (reach_known ks k y))

  reach_sound : (via : List Name) (x y : Name) → Reaches via x y → IsReached regions x.0 x.1
      → IsReached regions y.0 y.1
  reach_sound [] x y h from = held h.object from h.at h.holds
  reach_sound (k ∷ ks) x y (inl h) from = reach_sound ks x y h from
  reach_sound (k ∷ ks) x y (inr h) from = reach_sound ks k y h.1 (reach_sound ks x k h.0 from)

  more : (via : List Name) (x y : Name) → Holds x y → Reaches via x y
  more [] x y h = h
  more (k ∷ ks) x y h = inl (more ks x y h)

  to_it : (k : Name) (ks : List Name) (x : Name) → Reaches (k ∷ ks) x k → Reaches ks x k
  to_it k ks x (inl h) = h
  to_it k ks x (inr h) = h.0

  from_it : (k : Name) (ks : List Name) (y : Name) → Reaches (k ∷ ks) k y → Reaches ks k y
  from_it k ks y (inl h) = h
  from_it k ks y (inr h) = h.1

  abbrev Joins : List Name → Type 0
  Joins via = (x m y : Name) → Contains via m → Reaches via x m → Reaches via m y → Reaches via x y

  joined : (k : Name) (ks : List Name) (x m y : Name) → Joins ks → Contains ks m → Reaches (k ∷ ks) x m
      → Reaches (k ∷ ks) m y → Reaches (k ∷ ks) x y
  joined k ks x m y join has (inl a) (inl b) = inl (join x m y has a b)
  joined k ks x m y join has (inl a) (inr b) = inr (join x m k has a b.0, b.1)
  joined k ks x m y join has (inr a) (inl b) = inr (a.0, join k m y has a.1 b)
  joined k ks x m y join has (inr a) (inr b) = inr (a.0, b.1)

  through : (via : List Name) → Joins via
  through [] x m y has p q = absurd (none_in_empty m has)
  through (k ∷ ks) x m y has p q = elim (cons_cases k ks m has) [
    | inl same ↦
        let P : Name → Type 0 = λ z. Reaches (k ∷ ks) x z in
        let Q : Name → Type 0 = λ z. Reaches (k ∷ ks) z y in
        inr (to_it k ks x (subst P (sym same) p), from_it k ks y (subst Q (sym same) q))
    | inr more ↦ joined k ks x m y (through ks) more p q
  ]

  -- one that statics hold is it, or reaches it
  abbrev Leads : Name → Name → Type 0
  Leads y x = (x ≡ y) ⊎ Reaches (objects_from 0 regions) x y

  leads_known : (y x : Name) → Known (Leads y x)
  leads_known y x = one_known (same_name x y) (reach_known (objects_from 0 regions) x y)

  further : (x m y : Name) → Leads m x → Holds m y → Leads y x
  further x m y (inl same) h =
      let Q : Name → Type 0 = λ z. Reaches (objects_from 0 regions) z y in
      inr (subst Q (sym same) (more (objects_from 0 regions) m y h))
  further x m y (inr way) h =
      let has = object_named 0 regions m.0 m.1 h.object h.at in
      let Q : ℕ → Type 0 = λ z. Contains (objects_from 0 regions) (name z m.1) in
      let there = subst Q (let k : 0 + m.0 ≡ m.0 = omega arith in k) has in
      inr (through (objects_from 0 regions) x m y there way (more (objects_from 0 regions) m y h))

  led : (c n : ℕ) → IsReached regions c n → Some_is (Leads (name c n)) (statics_from regions)
  led c n (static d h) = record { one = (name c n); is_in = static_named regions d c n h; is = inl refl }
  led c n (held {d = d} {m = m} object from at holds) =
      let before = led d m from in
      record {
        one = before.one;
        is_in = before.is_in;
        is = further before.one (name d m) (name c n) before.is (record { object = object; at = at; holds = holds });
      }

  leads : (c n : ℕ) → Some_is (Leads (name c n)) (statics_from regions) → IsReached regions c n
  leads c n some =
      let root = held_static regions some.one some.is_in in
      let from : IsReached regions some.one.0 some.one.1 = static root.0 root.1 in
      elim some.is [
        | inl same ↦
            let Q : Name → Type 0 = λ z. IsReached regions z.0 z.1 in subst Q same from
        | inr way ↦ reach_sound (objects_from 0 regions) some.one (name c n) way from
      ]

  pub reached_known : (c n : ℕ) → Known (IsReached regions c n)
  reached_known c n = elim (some_known (Leads (name c n)) (leads_known (name c n)) (statics_from regions)) [
    | inl some ↦ inl (leads c n some)
    | inr none ↦ inr (λ h. none (led c n h))
  ]
