-- What is left of whole regions without the objects that no static field reaches is whole, and all of it is reached.
use Rattle.std.proofs.Common.{◌≡◌, ◌∙◌, ℕ, zero, ◌<◌, ◌≤◌, ◌==◌, true, List, [], ◌∷◌, length, Option, Some, None}
use Rattle.std.proofs.Common.{suc, option_map, refl, sym, ap, subst, eqb-true, inl, inr, arith}
use Rattle.std.proofs.Math.Path.{fun_ext}
use Rattle.std.specs.List.{AllByRecursion, Contains}
use Rattle.vm_state.specs.declared.object.Object.{Object}
use Rattle.vm_state.specs.declared.value.Maker.TheVariants.{Class}
use Rattle.vm_state.specs.declared.value.Value.{Value}
use Rattle.vm_state.specs.declared.value.Value.TheVariants as values
use Rattle.vm_state.specs.Values.{name_of}
use Rattle.vm_state.specs.SharedState.{Pool, Region, slots_at}
use Rattle.vm_state.proofs.ListLemmas.{tested}
use Rattle.semantics.specs.Lawful.{HoldsOfSlots, Knows, KnowsSlots}
use Rattle.semantics.specs.Quiet.{Environment, pool_seen}
use Rattle.program.specs.Programs.{IsProgram}
use Rattle.program.specs.Tables.{Tables}
use Rattle.region_shape.specs.Counts.{is_held, is_there}
use Rattle.region_shape.specs.Shapes.{SuitsStatic}
use Rattle.region_shape.specs.Texts.{HasText}
use Rattle.region_shape.specs.Wholes.{AreWhole}
use Rattle.object_graph.specs.declared.name_set.ObjectName.{ObjectName}
use Rattle.object_graph.specs.Cuts.{IsCutRegion, IsCutAt, IsCutOf, AreReached, OneCut, NothingLeftOut}
use Rattle.object_graph.specs.Images.{AreSmall, ImageTables}
use Rattle.region_shape.specs.Regions.{environment_of}
use Rattle.object_graph.specs.Reached.{reference_to, object_among, object_of, IsReached, static, held}
use Rattle.object_graph.proofs.StaticsLemmas.{names_static}

-- ---- regions beside each other

module _ (These : ObjectName → Type 0) (c : ℕ) where
  pub whole_of : (w p : Option Region) → IsCutAt These c w p → (s : Region) → p ≡ Some s
      → (r : Region) × (w ≡ Some r) × IsCutRegion These c r s
  whole_of None None is s at = cc
  whole_of None (Some q) is s at = absurd is
  whole_of (Some r) None is s at = absurd is
  whole_of (Some r) (Some q) is s at =
      let same : q ≡ s = cc in (r, refl, subst (λ (x : Region). IsCutRegion These c r x) same is)

  pub part_of : (w p : Option Region) → IsCutAt These c w p → (r : Region) → w ≡ Some r
      → (s : Region) × (p ≡ Some s) × IsCutRegion These c r s
  part_of None p is r at = cc
  part_of (Some q) None is r at = absurd is
  part_of (Some q) (Some s) is r at =
      let same : q ≡ r = cc in (s, refl, subst (λ (x : Region). IsCutRegion These c x s) same is)

-- ---- names in lists of values

each : (Q : Value → Type 0) (vs : List Value) → ((v : Value) → Contains vs v → Q v) → AllByRecursion Q vs
each Q [] h = tt
each Q (v ∷ vs) h = (
  h v (0, omega arith, refl),
  each Q vs (λ u is. h u (suc is.0, (let k : is.0 < length vs = is.1 in omega arith), is.2)),
)

pub one_of : (Q : Value → Type 0) (vs : List Value) (v : Value) → AllByRecursion Q vs → Contains vs v → Q v
one_of Q [] v all is = absurd (omega (arith, is.1))
one_of Q (u ∷ vs) v all (zero, low, is) = subst Q is all.0
one_of Q (u ∷ vs) v all (suc k, low, is) = one_of Q vs v all.1 (k, omega (arith, low), is)

-- the objects of a maker that is at hand with its own region
pub seen_as : (env : Environment) (c : ℕ) (r : Region) → env c ≡ Some r → (d : ℕ)
    → pool_seen env c r (Class d) ≡ option_map (λ (x : Region). x.pool) (env d)
seen_as env c r at d = elim (tested (d == c)) [
  | inl e ↦
      rw e (sym (ap (λ (o : Option Region). option_map (λ (x : Region). x.pool) o) (ap env (eqb-true d c e) ∙ at)))
  | inr e ↦ rw e refl
]

module _ (P : Tables) (program : IsProgram P) (whole part : Environment) (fits : AreWhole P whole)
    (is : IsCutOf P whole part) where
  pub whole_at : (c : ℕ) (s : Region) → part c ≡ Some s
      → (r : Region) × (whole c ≡ Some r) × IsCutRegion (IsReached P whole) c r s
  whole_at c s at = whole_of (IsReached P whole) c (whole c) (part c) (is c) s at

  part_at : (c : ℕ) (r : Region) → whole c ≡ Some r
      → (s : Region) × (part c ≡ Some s) × IsCutRegion (IsReached P whole) c r s
  part_at c r at = part_of (IsReached P whole) c (whole c) (part c) (is c) r at

  -- an object that is held is the whole region's
  object_same : (c n : ℕ) (r s : Region) (o : Object) → IsCutRegion (IsReached P whole) c r s
      → s.pool.at n ≡ Some o → r.pool.at n ≡ Some o
  object_same c n r s o cut at = sym (cut.kept n (cut.only n o at)) ∙ at

  -- ---- what is reached is reached still

  held_on : (x : ObjectName) (o : Object) → IsReached P whole x → object_of whole x ≡ Some o
      → object_of part x ≡ Some o
  held_on x o reached at = by (whole x.class) refl at
    where
      by : (w : Option Region) → whole x.class ≡ w → object_among w x.number ≡ Some o → object_of part x ≡ Some o
      by None none here = cc
      by (Some r) some here =
          let (s, there, cut) = part_at x.class r some in
          ap (λ (p : Option Region). object_among p x.number) there ∙ (cut.kept x.number reached ∙ here)

  pub reached_still : (x : ObjectName) → IsReached P whole x → IsReached P part x
  reached_still x (static c (r, at, (k, low, holds))) =
      let (s, there, cut) = part_at c r at in
      static c (s, there, (k, low, ap (λ (f : ℕ → Value). f k) cut.fields ∙ holds))
  reached_still x (held {x = y} reached (o, at, has)) =
      held (reached_still y reached) (o, held_on y o reached at, has)

  pub all_reached : AreReached P part
  all_reached x o at = by (part x.class) refl at
    where
      by : (p : Option Region) → part x.class ≡ p → object_among p x.number ≡ Some o → IsReached P part x
      by None none here = cc
      by (Some s) some here =
          let (r, there, cut) = whole_at x.class s some in reached_still x (cut.only x.number o here)

  -- ---- names

  pool_held : (d n : ℕ) → IsReached P whole (record { class = d; number = n })
      → is_held (option_map (λ (x : Region). x.pool) (whole d)) n ≡ true
      → is_held (option_map (λ (x : Region). x.pool) (part d)) n ≡ true
  pool_held d n reached = by (whole d) refl
    where
      by : (w : Option Region) → whole d ≡ w → is_held (option_map (λ (x : Region). x.pool) w) n ≡ true
          → is_held (option_map (λ (x : Region). x.pool) (part d)) n ≡ true
      by None none h = cc
      by (Some r) some h =
          let (s, there, cut) = part_at d r some in
          rw there (rw (cut.kept n reached) h)

  module _ (c : ℕ) (r s : Region) (at : whole c ≡ Some r) (there : part c ≡ Some s)
      (cut : IsCutRegion (IsReached P whole) c r s) where
    -- a name of an object that is reached
    name_there : (v : Value) → ((x : ObjectName) → v ≡ reference_to x → IsReached P whole x)
        → Knows (is_there whole c r) v → Knows (is_there part c s) v
    name_there (values.OfClass d n) reached h =
        let held_in = subst (λ (p : Option Pool). is_held p n ≡ true) (seen_as whole c r at d) h in
        subst (λ (p : Option Pool). is_held p n ≡ true) (sym (seen_as part c s there d))
        (pool_held d n (reached (record { class = d; number = n }) refl) held_in)
    name_there (values.OfThread t n) reached h = h
    name_there (values.Int n) reached h = tt
    name_there (values.Long n) reached h = tt
    name_there values.Null reached h = tt
    name_there (values.Text t) reached h = tt
    name_there values.Out reached h = tt

    field_there : (k : ℕ) → Knows (is_there part c s) (s.fields k)
    field_there k =
        subst (λ (f : ℕ → Value). Knows (is_there part c s) (f k)) (sym cut.fields)
        (name_there (r.fields k) reached ((fits.closed c r at).statics k))
      where
        reached : (x : ObjectName) → r.fields k ≡ reference_to x → IsReached P whole x
        reached x holds =
            static c (
              r,
              at,
              (
                k,
                names_static P program c k (r.fields k) _ ((fits.shape c r at).statics k)
                    (ap name_of holds),
                holds,
              ),
            )

    slots_there : (n : ℕ) → KnowsSlots (is_there part c s) (slots_at s.pool n)
    slots_there n = by (s.pool.at n) refl
      where
        by : (o : Option Object) → s.pool.at n ≡ o
            → KnowsSlots (is_there part c s) (option_map (λ (x : Object). x.slots) o)
        by None none = tt
        by (Some o) some =
            let here : r.pool.at n ≡ Some o = object_same c n r s o cut some in
            let known =
            subst (λ (y : Option Object). KnowsSlots (is_there whole c r) (option_map (λ (x : Object). x.slots) y)) here
            ((fits.closed c r at).slots n) in
            each (Knows (is_there part c s)) o.slots (λ v has. name_there v
            (λ x same. held (cut.only n o some)
            (o, ap (λ (w : Option Region). object_among w n) at ∙ here, subst (Contains o.slots) same has))
            (one_of (Knows (is_there whole c r)) o.slots v known has))

    texts_there : (n : ℕ) → HoldsOfSlots (HasText P) (slots_at s.pool n)
    texts_there n = by (s.pool.at n) refl
      where
        by : (o : Option Object) → s.pool.at n ≡ o
            → HoldsOfSlots (HasText P) (option_map (λ (x : Object). x.slots) o)
        by None none = tt
        by (Some o) some =
            subst (λ (y : Option Object). HoldsOfSlots (HasText P) (option_map (λ (x : Object). x.slots) y))
            (object_same c n r s o cut some) ((fits.texts c r at).slots n)

    none_there : (n : ℕ) → s.pool.count ≤ n → s.pool.at n ≡ None
    none_there n past = by (s.pool.at n) refl
      where
        by : (o : Option Object) → s.pool.at n ≡ o → o ≡ None
        by None none = refl
        by (Some o) some =
            let gone = (fits.shape c r at).no_more n (omega (arith, past, cut.count)) in
            (let clash : None ≡ Some o = sym gone ∙ object_same c n r s o cut some in cc)

  -- ---- what is left is whole

  pub part_whole : AreWhole P part
  part_whole = record {
    shape = λ c s there.
        let (r, at, cut) = whole_at c s there in
        record {
          statics = λ k. subst (λ (f : ℕ → Value). SuitsStatic P c k (f k)) (sym cut.fields)
              ((fits.shape c r at).statics k);
          objects = λ n o some. (fits.shape c r at).objects n o (object_same c n r s o cut some);
          no_more = none_there c r s at there cut;
        };
    closed = λ c s there.
        let (r, at, cut) = whole_at c s there in
        record { statics = field_there c r s at there cut; slots = slots_there c r s at there cut };
    texts = λ c s there.
        let (r, at, cut) = whole_at c s there in
        record {
          statics = λ k. subst (λ (f : ℕ → Value). HasText P (f k)) (sym cut.fields) ((fits.texts c r at).statics k);
          slots = texts_there c r s at there cut;
        };
  }

  pub part_small : AreSmall P whole → AreSmall P part
  part_small small = record {
    classes = λ c s there. let (r, at, cut) = whole_at c s there in small.classes c r at;
    objects = λ c s there.
        let (r, at, cut) = whole_at c s there in (let few = small.objects c r at in omega (arith, few, cut.count));
    elements = λ c n s o there some.
        let (r, at, cut) = whole_at c s there in small.elements c n r o at (object_same c n r s o cut some);
  }

-- ---- one answer

pub region_same : (r s : Region) → r.fields ≡ s.fields → r.pool.count ≡ s.pool.count
    → ((n : ℕ) → r.pool.at n ≡ s.pool.at n) → r ≡ s
region_same r s fields count at =
    let all : r.pool.at ≡ s.pool.at = fun_ext at in
    λ i. record { fields = fields i; pool = record { count = count i; at = all i } }

module _ (These : ObjectName → Type 0) (c : ℕ) where
  object_once : (w p q : Region) → IsCutRegion These c w p → IsCutRegion These c w q → (n : ℕ)
      → p.pool.at n ≡ q.pool.at n
  object_once w p q first second n = by (p.pool.at n) (q.pool.at n) refl refl
    where
      by : (o u : Option Object) → p.pool.at n ≡ o → q.pool.at n ≡ u → o ≡ u
      by None None one other = refl
      by (Some x) u one other =
          let so = first.only n x one in sym one ∙ (first.kept n so ∙ (sym (second.kept n so) ∙ other))
      by None (Some y) one other =
          let so = second.only n y other in sym one ∙ (first.kept n so ∙ (sym (second.kept n so) ∙ other))

  cut_once : (w p q : Option Region) → IsCutAt These c w p → IsCutAt These c w q → p ≡ q
  cut_once None None None first second = refl
  cut_once None (Some p) q first second = absurd first
  cut_once None None (Some q) first second = absurd second
  cut_once (Some w) None q first second = absurd first
  cut_once (Some w) (Some p) None first second = absurd second
  cut_once (Some w) (Some p) (Some q) first second =
      ap Some (region_same p q (first.fields ∙ sym second.fields) (first.count ∙ sym second.count)
      (object_once w p q first second))

pub one_cut_lem : OneCut
one_cut_lem P whole first second is also c =
    cut_once (IsReached P whole) c (whole c) (first c) (second c) (is c) (also c)

-- regions whose objects are all reached are what is left of themselves
pub all_kept : (P : Tables) (env : Environment) → AreReached P env → IsCutOf P env env
all_kept P env reached c = by (env c) refl
  where
    by : (o : Option Region) → env c ≡ o → IsCutAt (IsReached P env) c o o
    by None none = tt
    by (Some r) some = record {
      fields = refl;
      count = refl;
      kept = λ n so. refl;
      only = λ n o at.
          reached (record { class = c; number = n }) o (ap (λ (w : Option Region). object_among w n) some ∙ at);
    }

pub nothing_left_out_lem : NothingLeftOut
nothing_left_out_lem P whole part reached is c = one_cut_lem P whole part whole is (all_kept P whole reached) c

-- images of one program hold the same, where the same is left of their regions
pub same_left : (I J : ImageTables) (whole other : Environment) → I.program ≡ J.program → whole ≡ other
    → IsCutOf I.program whole (environment_of I.regions) → IsCutOf J.program other (environment_of J.regions)
    → (c : ℕ) → environment_of I.regions c ≡ environment_of J.regions c
same_left I J whole other program regions is also =
    one_cut_lem I.program whole (environment_of I.regions) (environment_of J.regions) is
    (subst (λ (env : Environment). IsCutOf I.program env (environment_of J.regions)) (sym regions)
    (subst (λ (P : Tables). IsCutOf P other (environment_of J.regions)) (sym program) also))
