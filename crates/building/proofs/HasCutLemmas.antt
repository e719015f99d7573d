-- Regions have a cut: what is left of them without the objects that no static field reaches, as an image holds it.
use Rattle.std.proofs.Common.{◌≡◌, ◌⊎◌, inl, inr, ℕ, zero, suc, ◌+◌, ◌<◌, ◌≤◌, Bool, true, false, List, [], ◌∷◌, ◌++◌}
use Rattle.std.proofs.Common.{length, Option, Some, None, option_map, refl, sym, ap, subst}
use Rattle.std.proofs.Common.{◌∙◌, arith, eqb, cond, eq-eqb}
use Rattle.std.specs.List.{Contains}
use Rattle.std.proofs.Math.Path.{fun_ext}
use Rattle.std.proofs.lemmas.Bool.{cases_lt, eqb-true}
use Rattle.std.proofs.lemmas.List.Elements.{Contains-append_left, Contains-append_right}
use Rattle.std.proofs.lemmas.Option.{slice_get_past}
use Rattle.vm_state.specs.declared.object.Object.{Object}
use Rattle.vm_state.specs.declared.value.Value.{Value}
use Rattle.vm_state.specs.declared.value.Value.TheVariants as values
use Rattle.vm_state.specs.Objects.{object_in, or_later}
use Rattle.vm_state.specs.SharedState.{Region}
use Rattle.semantics.specs.Quiet.{Environment}
use Rattle.program.specs.InstanceFields.{static_kinds}
use Rattle.program.specs.Tables.{Tables, statics_in}
use Rattle.region_shape.specs.Shapes.{SuitsField}
use Rattle.region_shape.specs.Laws.{HaveShape}
use Rattle.region_shape.specs.declared.regions.Region.{Region as Held}
use Rattle.region_shape.specs.Regions.{environment_of, region_of}
use Rattle.object_graph.specs.declared.name_set.ObjectName.{ObjectName}
use Rattle.object_graph.specs.Cuts.{IsCutAt, IsCutOf, IsCutRegion}
use Rattle.object_graph.specs.Reached.{Holds, IsInFields, IsInStaticsOf, IsReached, held, object_among, object_of}
use Rattle.object_graph.specs.Reached.{reference_to, static}
use Rattle.initializer_analysis.proofs.ReachesLemmas.{Decided, Through, along, decided_among, decided_as, decided_below}
use Rattle.initializer_analysis.proofs.ReachesLemmas.{decided_both}
use Rattle.initializer_analysis.proofs.ReachesLemmas.{decided_either, decided_same, decided_through, in_first}
use Rattle.initializer_analysis.proofs.ReachesLemmas.{in_rest, or_table, past_table, table, through_edge}
use Rattle.initializer_analysis.proofs.ReachesLemmas.{through_joined}

-- ---- references

decided_reference : (v : Value) (x : ObjectName) → Decided (v ≡ reference_to x)
decided_reference (values.OfClass c n) x =
    decided_as (λ (same, so). ap (λ (d : ℕ). values.OfClass d n) same ∙ ap (λ (m : ℕ). values.OfClass x.class m) so)
    (λ is. (cc, cc)) (decided_both (decided_same c x.class) (decided_same n x.number))
decided_reference v x = inr (λ is. cc)

-- ---- the names of objects

numbered : ℕ → ℕ → List ObjectName
numbered c zero = []
numbered c (suc n) = (record { class = c; number = n }) ∷ numbered c n

in_numbered : (c n k : ℕ) → k < n → Contains (numbered c n) (record { class = c; number = k })
unfolding numbered
in_numbered c zero k low = absurd (omega arith)
in_numbered c (suc n) k low = elim (last k low) [
  | inl less ↦ in_rest (record { class = c; number = k }) (record { class = c; number = n }) (numbered c n)
      (in_numbered c n k less)
  | inr same ↦ subst (λ (x : ℕ). Contains ((record { class = c; number = n }) ∷ numbered c n)
      (record { class = c; number = x })) (sym same) (in_first (record { class = c; number = n }) (numbered c n))
]
  where
    last : (j : ℕ) → j < suc n → (j < n) ⊎ (j ≡ n)
    last j less = grind arith

module _ (P : Tables) (env : Environment) (limit : ℕ)
    (within : (c : ℕ) (region : Region) → env c ≡ Some region → c < limit) (shape : HaveShape P env) where
  count_if : Option Region → ℕ
  count_if None = 0
  count_if (Some region) = region.pool.count

  names_below : ℕ → List ObjectName
  names_below zero = []
  names_below (suc c) = numbered c (count_if (env c)) ++ names_below c

  in_names : (limit c n : ℕ) → c < limit → n < count_if (env c)
      → Contains (names_below limit) (record { class = c; number = n })
  unfolding names_below
  in_names zero c n low small = absurd (omega arith)
  in_names (suc m) c n low small = elim (last c low) [
    | inl less ↦ Contains-append_right (numbered m (count_if (env m))) (names_below m)
        (record { class = c; number = n }) (in_names m c n less small)
    | inr same ↦ Contains-append_left (numbered m (count_if (env m))) (names_below m)
        (record { class = c; number = n })
        (subst (λ (x : ℕ). Contains (numbered x (count_if (env x))) (record { class = c; number = n })) same
        (in_numbered c (count_if (env c)) n small))
  ]
    where
      last : (j : ℕ) → j < suc m → (j < m) ⊎ (j ≡ m)
      last j less = grind arith

  names : List ObjectName
  names = names_below limit

  -- a name that has an object is among them
  is_name : (x : ObjectName) (object : Object) → object_of env x ≡ Some object → Contains names x
  unfolding names count_if
  is_name x object at = by (env x.class) refl at
    where
      by : (o : Option Region) → env x.class ≡ o → object_of env x ≡ Some object → Contains names x
      by None none there =
          absurd (let nothing : object_of env x ≡ None = ap (λ (o : Option Region). object_among o x.number) none in
          let clash = sym nothing ∙ there in cc)
      by (Some region) is there = in_names limit x.class x.number (within x.class region is) small
        where
          small : x.number < count_if (env x.class)
          small = elim (cases_lt x.number region.pool.count) [
            | inl low ↦ subst (λ (o : Option Region). x.number < count_if o) (sym is) low
            | inr high ↦ absurd (let none = (shape x.class region is).no_more x.number high in cc)
          ]

  -- ---- what is reached

  IsStatic : ObjectName → Type 0
  IsStatic x = (c : ℕ) × IsInStaticsOf P env c x

  decided_fields : (fields : ℕ → Value) (count : ℕ) (x : ObjectName) → Decided (IsInFields fields count x)
  decided_fields fields count x =
      decided_below count (λ k. fields k ≡ reference_to x) (λ k low. decided_reference (fields k) x)

  decided_static : (x : ObjectName) → Decided (IsStatic x)
  unfolding IsStatic
  decided_static x =
      decided_as (λ (c, low, is). (c, is)) (λ (c, (region, at, is)). (c, within c region at, (region, at, is)))
      (decided_below limit (λ c. IsInStaticsOf P env c x) (λ c low. by c (env c) refl))
    where
      by : (c : ℕ) (o : Option Region) → env c ≡ o → Decided (IsInStaticsOf P env c x)
      by c None none = inr (λ (region, at, is). let clash = sym none ∙ at in cc)
      by c (Some region) there =
          decided_as (λ is. (region, there, is)) (λ (other, at, is).
          subst (λ (r : Region). IsInFields r.fields (length (statics_in P c)) x)
          (let two : Some other ≡ Some region = sym at ∙ there in let same : other ≡ region = cc in same) is)
          (decided_fields region.fields (length (statics_in P c)) x)

  decided_holds : (x y : ObjectName) → Decided (Holds env x y)
  decided_holds x y = by (object_of env x) refl
    where
      by : (o : Option Object) → object_of env x ≡ o → Decided (Holds env x y)
      by None none = inr (λ (object, at, is). let clash = sym none ∙ at in cc)
      by (Some object) there =
          decided_as (λ (v, at, is). (object, there, subst (Contains object.slots) is at))
          (λ (other, also, at). (
            reference_to y,
            subst (λ (o : Object). Contains o.slots (reference_to y))
                (let two : Some other ≡ Some object = sym also ∙ there in let same : other ≡ object = cc in same) at,
            refl,
          ))
          (decided_among object.slots (λ v. v ≡ reference_to y) (λ v. decided_reference v y))

  -- in statics, or held by way of others from one that is
  IsFound : ObjectName → Type 0
  IsFound x = IsStatic x
      ⊎ ((r : ObjectName) × Contains names r × (IsStatic r × Through (Holds env) names r x))

  to_found : {x : ObjectName} → IsReached P env x → IsFound x
  unfolding IsFound IsStatic
  to_found (static c is) = inl (c, is)
  to_found {x = y} (held {x = x} reached (object, at, is)) = by (to_found reached)
    where
      here : Contains names x
      here = is_name x object at

      edge : Through (Holds env) names x y
      edge = through_edge (Holds env) names (object, at, is)

      by : IsFound x → IsFound y
      by (inl first) = inr (x, here, (first, edge))
      by (inr (r, among, (first, way))) =
          inr (r, among, (first, through_joined (Holds env) names r x y here way edge))

  from_found : (x : ObjectName) → IsFound x → IsReached P env x
  unfolding IsFound IsStatic
  from_found x (inl (c, is)) = static c is
  from_found x (inr (r, among, ((c, is), way))) =
      along (Holds env) (IsReached P env) (λ a b edge reached. held reached edge) names r x way (static c is)

  decided_reached : (x : ObjectName) → Decided (IsReached P env x)
  unfolding IsFound
  decided_reached x =
      decided_as (from_found x) to_found
      (decided_either (decided_static x) (decided_among names
      (λ r. IsStatic r × Through (Holds env) names r x) (λ r.
      decided_both (decided_static r) (decided_through (Holds env) decided_holds names r x))))

  -- ---- the cut of a region

  module _ (c : ℕ) (region : Region) (here : env c ≡ Some region) where
    name : ℕ → ObjectName
    name n = record { class = c; number = n }

    if_reached : (n : ℕ) → Decided (IsReached P env (name n)) → Option Object
    if_reached n (inl reached) = region.pool.at n
    if_reached n (inr never) = None

    left : ℕ → Option Object
    left n = if_reached n (decided_reached (name n))

    entry : ℕ → Option Object → List (ℕ × Object) → List (ℕ × Object)
    entry n None rest = rest
    entry n (Some object) rest = (n, object) ∷ rest

    row : ℕ → ℕ → List (ℕ × Object)
    row zero low = []
    row (suc n) low = entry low (left low) (row n (suc low))

    later : (o : Option Object) → or_later None o ≡ o
    later None = refl
    later (Some object) = refl

    other_entry : (low k : ℕ) (o : Option Object) (rest : List (ℕ × Object)) → (k ≡ low → ⊥)
        → object_in (entry low o rest) k ≡ object_in rest k
    unfolding entry
    other_entry low k None rest apart = refl
    other_entry low k (Some object) rest apart = by (eqb k low) refl
      where
        by : (b : Bool) → eqb k low ≡ b → or_later (cond b (Some object) None) (object_in rest k) ≡ object_in rest k
        by true same = absurd (apart (eqb-true k low same))
        by false is = later (object_in rest k)

    own_entry : (low : ℕ) (o : Option Object) (rest : List (ℕ × Object)) → object_in rest low ≡ None
        → object_in (entry low o rest) low ≡ o
    unfolding entry
    own_entry low None rest none = none
    own_entry low (Some object) rest none =
        rw (eq-eqb low low refl) (ap (λ (o : Option Object). or_later (Some object) o) none)

    row_before : (n low k : ℕ) → k < low → object_in (row n low) k ≡ None
    unfolding row
    row_before zero low k less = refl
    row_before (suc n) low k less =
        other_entry low k (left low) (row n (suc low)) (λ same. omega arith)
        ∙ row_before n (suc low) k (omega arith)

    row_past : (n low k : ℕ) → low + n ≤ k → object_in (row n low) k ≡ None
    unfolding row
    row_past zero low k past = refl
    row_past (suc n) low k past =
        other_entry low k (left low) (row n (suc low)) (λ same. omega arith)
        ∙ row_past n (suc low) k (omega arith)

    row_at : (n low k : ℕ) → low ≤ k → k < low + n → object_in (row n low) k ≡ left k
    unfolding row
    row_at zero low k up small = absurd (omega arith)
    row_at (suc n) low k up small = by (decided_same k low) (λ next. row_at n (suc low) k next (omega arith))
      where
        by : Decided (k ≡ low) → (suc low ≤ k → object_in (row n (suc low)) k ≡ left k)
            → object_in (entry low (left low) (row n (suc low))) k ≡ left k
        by (inl same) rest =
            subst (λ (j : ℕ). object_in (entry low (left low) (row n (suc low))) j ≡ left j) (sym same)
            (own_entry low (left low) (row n (suc low)) (row_before n (suc low) low (omega arith)))
        by (inr apart) rest = other_entry low k (left low) (row n (suc low)) apart ∙ rest (omega arith)

    cut : Held
    cut = record {
      fields = table (length (static_kinds P.family c)) region.fields;
      objects = record { count = region.pool.count; objects = row region.pool.count 0 };
    }

    same_fields : (region_of cut).fields ≡ region.fields
    unfolding cut
    same_fields = fun_ext (λ k. elim (cases_lt k (length (static_kinds P.family c))) [
      | inl low ↦ or_table (length (static_kinds P.family c)) region.fields k values.Null low
      | inr high ↦ past_table (length (static_kinds P.family c)) region.fields k values.Null high
          ∙ sym (subst (λ o. SuitsField o (region.fields k)) (slice_get_past (static_kinds P.family c) k high)
          ((shape c region here).statics k))
    ])

    left_is : (n : ℕ) (d : Decided (IsReached P env (name n))) → IsReached P env (name n)
        → if_reached n d ≡ region.pool.at n
    unfolding if_reached
    left_is n (inl reached) is = refl
    left_is n (inr never) is = absurd (never is)

    left_only : (n : ℕ) (d : Decided (IsReached P env (name n))) (object : Object) → if_reached n d ≡ Some object
        → IsReached P env (name n)
    unfolding if_reached
    left_only n (inl reached) object is = reached
    left_only n (inr never) object is = absurd cc

    is_cut : IsCutRegion (IsReached P env) c region (region_of cut)
    unfolding cut left name
    is_cut = record {
      fields = same_fields;
      count = refl;
      kept = λ n reached. elim (cases_lt n region.pool.count) [
        | inl low ↦ row_at region.pool.count 0 n (omega arith) (omega arith)
            ∙ left_is n (decided_reached (name n)) reached
        | inr high ↦ row_past region.pool.count 0 n (omega arith) ∙ sym ((shape c region here).no_more n high)
      ];
      only = λ n object at. elim (cases_lt n region.pool.count) [
        | inl low ↦ left_only n (decided_reached (name n)) object
            (sym (row_at region.pool.count 0 n (omega arith) (omega arith)) ∙ at)
        | inr high ↦ absurd (let clash = sym (row_past region.pool.count 0 n (omega arith)) ∙ at in cc)
      ];
    }

  cut_if : (c : ℕ) (o : Option Region) → env c ≡ o → Option Held
  cut_if c None none = None
  cut_if c (Some region) here = Some (cut c region here)

  cut_at : (c : ℕ) → Option Held
  cut_at c = cut_if c (env c) refl

  is_cut_if : (c : ℕ) (o : Option Region) (is : env c ≡ o)
      → IsCutAt (IsReached P env) c o (option_map region_of (cut_if c o is))
  unfolding cut_if
  is_cut_if c None none = tt
  is_cut_if c (Some region) here = is_cut c region here

  pub has_cut : (regions : List (Option Held)) × IsCutOf P env (environment_of regions)
  unfolding cut_at
  has_cut = (table limit cut_at, each)
    where
      each : (c : ℕ) → IsCutAt (IsReached P env) c (env c) (environment_of (table limit cut_at) c)
      each c = elim (cases_lt c limit) [
        | inl low ↦ subst (λ o. IsCutAt (IsReached P env) c (env c) (option_map region_of o))
            (sym (or_table limit cut_at c None low)) (is_cut_if c (env c) refl)
        | inr high ↦ subst (λ o. IsCutAt (IsReached P env) c (env c) (option_map region_of o))
            (sym (past_table limit cut_at c None high)) (nothing high (env c) refl)
      ]
        where
          nothing : limit ≤ c → (o : Option Region) → env c ≡ o → IsCutAt (IsReached P env) c o None
          nothing high None none = tt
          nothing high (Some region) there = absurd (let low = within c region there in omega arith)
