-- What depends on classes that are not accepted.
use Rattle.std.proofs.Common.{◌≡◌, ◌≢◌, ◌⊎◌, ℕ, ◌+◌, ◌*◌, ◌<◌, ◌≤◌, List, [], length, inl, inr, refl, sym, subst}
use Rattle.std.proofs.Common.{◌∙◌, ap, Some, slice_get, slice_index_or, option_map, arith}
use Rattle.std.proofs.lemmas.Bool.{cases_eq}
use Rattle.std.specs.List.{Contains}
use Rattle.std.proofs.lemmas.Option.{slice_get-get_or, slice_get-map}
use Rattle.graph.specs.Rows.{Rows}
use Rattle.graph.specs.Reaches.{Reaches, along}
use Rattle.graph.specs.Seen.{Seen}
use Rattle.graph.proofs.ReverseLemmas.{Reaches-turned, IsReverse-turned}
use Rattle.program.specs.Tables.{Tables}
use Rattle.use_graph.specs.declared.whole_program.UseGraph.{UseGraph}
use Rattle.use_graph.specs.steps.Bodies.{IsUseGraph}
use Rattle.use_graph.specs.Uses.{IsUse}
use Rattle.initializer_analysis.specs.declared.verdict.Reason.{Reason}
use Rattle.initializer_analysis.specs.declared.verdict.Verdict.{Verdict}
use Rattle.initializer_analysis.specs.declared.verdict.Verdict.TheVariants as verdicts
use Rattle.initializer_analysis.specs.steps.Dependence.{vertex_of, IsDependence}
use Rattle.initializer_analysis.proofs.DependenceLemmas.{next_use, use_reached}
use Rattle.initializer_analysis.proofs.RowsBelowLemmas.{calls_few}
use Rattle.wave_scheduler.specs.declared.outcome.Settled.{Settled as Answer}
use Rattle.wave_scheduler.specs.declared.tainted.Tainted.{Tainted}
use Rattle.wave_scheduler.specs.Settled.{Settled, IsAccepted}
use Rattle.wave_scheduler.specs.Outcomes.{outcome_of, settled_of}
use Rattle.wave_scheduler.specs.steps.Tainting.{IsClosedIn, AddsReached, AreDependents, vertex_in, IsSeen, IsSearched}
use Rattle.wave_scheduler.specs.steps.Tainting.{Spreads}
use Rattle.wave_scheduler.specs.steps.Tainting.{DependsOnRefused, SeesBelow, IsOver, SeesOver, AreTainted}
use Rattle.wave_scheduler.proofs.FindingLemmas.{refused_or}
use Rattle.wave_scheduler.proofs.SpreadingLemmas.{less_or_same}

-- ---- what was added

pub spreads_reached : (c : ℕ) (old : Tainted) (seen : Seen) → seen.limit ≡ old.seen.limit
    → AddsReached old.dependents (vertex_in old c) old.seen.items seen.items
    → Spreads c (Unit {0}) old (record { dependents = old.dependents; first = old.first; seen = seen })
spreads_reached c old seen limit adds = record {
  dependents = refl;
  first = refl;
  within = limit;
  each = λ v. (
    λ there. elim ((adds v).0 there) [ inl before ↦ inl before | inr path ↦ inr (tt, path) ],
    λ either. (adds v).1 (elim either [ inl before ↦ inl before | inr (t, path) ↦ inr path ]),
  );
}

pub spreads_if : (c : ℕ) (Holds : Type 0) (old new : Tainted) → Holds → Spreads c (Unit {0}) old new
    → Spreads c Holds old new
spreads_if c Holds old new holds s = record {
  dependents = s.dependents;
  first = s.first;
  within = s.within;
  each = λ v. (
    λ seen. elim ((s.each v).0 seen) [ inl before ↦ inl before | inr (t, path) ↦ inr (holds, path) ],
    λ either. (s.each v).1 (elim either [ inl before ↦ inl before | inr (h, path) ↦ inr (tt, path) ]),
  );
}

pub refused_here : (s : Answer) (c : ℕ) (r : Reason) (d : Verdict) → c < length s.verdicts
    → slice_index_or s.verdicts c d ≡ verdicts.Refused r → ¬ IsAccepted (settled_of s) c
refused_here s c r d low is =
    (refused_or (settled_of s) c (verdicts.Refused r) (slice_get-map outcome_of s.verdicts c
    ∙ ap (option_map outcome_of) (slice_get-get_or s.verdicts c d low ∙ ap Some is))).0 refl

-- a path from a class's vertex, over the same graph
pub moved : (c e : ℕ) (Holds : Type 0) (old new : Tainted) → Spreads c Holds old new → (v : ℕ)
    → Reaches old.dependents (vertex_in old e) v → Reaches new.dependents (vertex_in new e) v
moved c e Holds old new s v path =
    subst (λ (g : Rows). Reaches g (vertex_in new e) v) (sym s.dependents)
    (subst (λ (n : ℕ). Reaches old.dependents (n + e) v) (sym s.first) path)

pub moved_back : (c e : ℕ) (Holds : Type 0) (old new : Tainted) → Spreads c Holds old new → (v : ℕ)
    → Reaches new.dependents (vertex_in new e) v → Reaches old.dependents (vertex_in old e) v
moved_back c e Holds old new s v path =
    subst (λ (n : ℕ). Reaches old.dependents (n + e) v) s.first
    (subst (λ (g : Rows). Reaches g (vertex_in new e) v) s.dependents path)

-- ---- what is seen before the first wave

pub sees_none : (S : Settled) (t : Tainted) → t.seen.items ≡ [] → SeesBelow S t 0
sees_none S t none v = (
  λ seen. absurd (let at : Contains [] v = subst (λ (xs : List ℕ). Contains xs v) none seen in omega (arith, at.1)),
  λ depends. absurd (let low = depends.1 in omega arith),
)

pub closed_by : (S : Settled) (t : Tainted) (limit : ℕ) → SeesBelow S t limit → IsClosedIn t.dependents t.seen.items
closed_by S t limit sees a b seen edge =
    let (e, low, never, path) = (sees a).0 seen in
    (sees b).1 (e, low, never, along path edge)

pub sees_more : (S : Settled) (old new : Tainted) (i : ℕ) → SeesBelow S old i → Spreads i (¬ IsAccepted S i) old new
    → SeesBelow S new (i + 1)
sees_more S old new i sees s v = (
  λ seen. elim ((s.each v).0 seen) [
    | inl before ↦ (let (e, low, never, path) = (sees v).0 before in
        (e, omega arith, never, moved i e (¬ IsAccepted S i) old new s v path))
    | inr (never, path) ↦ (i, omega arith, never, moved i i (¬ IsAccepted S i) old new s v path)
  ],
  λ depends. by depends,
)
  where
    by : DependsOnRefused S new (i + 1) v → IsSeen new v
    by (e, low, never, path) = elim (less_or_same e i low) [
      | inl less ↦
          (s.each v).1 (inl ((sees v).1 (e, less, never, moved_back i e (¬ IsAccepted S i) old new s v path)))
      | inr same ↦
          let never_i : ¬ IsAccepted S i = subst (λ (x : ℕ). ¬ IsAccepted S x) same never in
          let path_i : Reaches new.dependents (vertex_in new i) v =
          subst (λ (x : ℕ). Reaches new.dependents (vertex_in new x) v) same path in
          (s.each v).1 (inr (never_i, moved_back i i (¬ IsAccepted S i) old new s v path_i))
    ]

pub over_more : (dependents : Rows) (first c : ℕ) (Holds : Type 0) (old new : Tainted) → IsOver dependents first old
    → Spreads c Holds old new → IsOver dependents first new
over_more dependents first c Holds old new over s = record {
  graph = s.dependents ∙ over.graph;
  start = s.first ∙ over.start;
  within = s.within ∙ over.within;
}

pub searched_over : (S : Settled) (dependents : Rows) (first limit : ℕ) (t : Tainted) → first ≤ 2 * (65535 * 65535)
    → SeesOver S dependents first limit t → IsSearched t
searched_over S dependents first limit t few found = record {
  few = omega (arith, found.over.start);
  within = found.over.within ∙ ap length (sym found.over.graph);
  closed = closed_by S t limit found.sees;
}

pub low_over : (S : Settled) (dependents : Rows) (first limit c count : ℕ) (t : Tainted)
    → length dependents ≡ first + count → c < count → SeesOver S dependents first limit t
    → vertex_in t c < length t.dependents
low_over S dependents first limit c count t size low found =
    omega (arith, found.over.start, ap length found.over.graph)

-- all classes were looked at
pub tainted_over : (P : Tables) (uses : UseGraph) (S : Settled) (dependents : Rows) (first count : ℕ) (t : Tainted)
    → IsUseGraph P uses → AreDependents P uses dependents → first ≡ vertex_of uses 0 → count ≡ length P.classes
    → SeesOver S dependents first count t → AreTainted P S t
tainted_over P uses S dependents first count t whole are start size found = record {
  uses = uses;
  whole = whole;
  dependents = subst (AreDependents P uses) (sym found.over.graph) are;
  first = omega (arith, found.over.start);
  within = found.over.within ∙ ap length (sym found.over.graph);
  sees = subst (SeesBelow S t) size found.sees;
}

-- ---- what is known of it

module _ (P : Tables) (S : Settled) (t : Tainted) (are : AreTainted P S t) where
  pub few : t.first ≤ 2 * (65535 * 65535)
  few = omega (arith, calls_few P are.uses are.whole, are.first)

  pub searched : IsSearched t
  searched = record {
    few = few;
    within = are.within;
    closed = closed_by S t (length P.classes) are.sees;
  }

  pub vertex_low : (c : ℕ) → c < length P.classes → vertex_in t c < length t.dependents
  vertex_low c low =
      let (graph, is, turned) = are.dependents in
      omega (arith, is.vertices, turned.len, are.first)

  -- what uses a class that is not accepted is seen
  pub use_seen : (c e : ℕ) → c < length P.classes → IsUse P c e → (¬ IsAccepted S e) → IsSeen t (vertex_in t c)
  use_seen c e low used never =
      let (graph, is, turned) = are.dependents in
      let path = use_reached P are.uses graph are.whole is c e used low in
      let back : Reaches t.dependents (vertex_of are.uses e) (vertex_of are.uses c) =
      Reaches-turned graph t.dependents (vertex_of are.uses c) (vertex_of are.uses e) turned path in
      (are.sees (vertex_in t c)).1 (e, used.0, never, as_first e c back)
    where
      as_first : (e c : ℕ) → Reaches t.dependents (vertex_of are.uses e) (vertex_of are.uses c)
          → Reaches t.dependents (vertex_in t e) (vertex_in t c)
      as_first e c path = subst (λ (n : ℕ). Reaches t.dependents (n + e) (n + c)) (sym are.first) path

  -- a class is reached along uses from one that is seen
  abbrev pub IsFrom : ℕ → ℕ → Type 0
  IsFrom c e = (graph : Rows) × IsDependence P are.uses graph
      × Reaches graph (vertex_of are.uses c) (vertex_of are.uses e)

  pub seen_from : (c : ℕ) → IsSeen t (vertex_in t c)
      → (e : ℕ) × (e < length P.classes) × (¬ IsAccepted S e) × IsFrom c e
  seen_from c seen =
      let (e, low, never, path) = (are.sees (vertex_in t c)).0 seen in
      let (graph, is, turned) = are.dependents in
      let there : Reaches t.dependents (vertex_of are.uses e) (vertex_of are.uses c) =
      subst (λ (n : ℕ). Reaches t.dependents (n + e) (n + c)) are.first path in (
        e,
        low,
        never,
        (
          graph,
          is,
          Reaches-turned t.dependents graph (vertex_of are.uses e) (vertex_of are.uses c)
              (IsReverse-turned graph t.dependents turned) there,
        ),
      )

  pub next_from : (c e : ℕ) → c < length P.classes → IsFrom c e → (c ≡ e) ⊎ ((d : ℕ) × IsUse P c d × IsFrom d e)
  next_from c e low (graph, is, path) = elim (next_use P are.uses graph are.whole is c e low path) [
    | inl same ↦ inl same
    | inr (d, used, rest) ↦ inr (d, used, (graph, is, rest))
  ]

-- ---- a class that is tried

-- of one class, which was accepted, another outcome
pub tainted_more : (P : Tables) (S T : Settled) (c : ℕ) (old new : Tainted) → AreTainted P S old → c < length P.classes
    → IsAccepted S c → ((e : ℕ) → e ≢ c → slice_get T.outcomes e ≡ slice_get S.outcomes e)
    → Spreads c (¬ IsAccepted T c) old new → AreTainted P T new
tainted_more P S T c old new are low accepted same s = record {
  uses = are.uses;
  whole = are.whole;
  dependents = subst (AreDependents P are.uses) (sym s.dependents) are.dependents;
  first = s.first ∙ are.first;
  within = s.within ∙ are.within ∙ ap length (sym s.dependents);
  sees = λ v. (λ seen. there v ((s.each v).0 seen), λ depends. back v depends);
}
  where
    still : (e : ℕ) → (¬ IsAccepted S e) → ¬ IsAccepted T e
    still e never = elim (cases_eq e c) [
      | inl is ↦ absurd (never (subst (IsAccepted S) (sym is) accepted))
      | inr apart ↦ λ (k, at). never (k, sym (same e apart) ∙ at)
    ]

    there : (v : ℕ) → (IsSeen old v ⊎ ((¬ IsAccepted T c) × Reaches old.dependents (vertex_in old c) v))
        → DependsOnRefused T new (length P.classes) v
    there v (inl before) =
        let (e, less, never, path) = (are.sees v).0 before in
        (e, less, still e never, moved c e (¬ IsAccepted T c) old new s v path)
    there v (inr (never, path)) = (c, low, never, moved c c (¬ IsAccepted T c) old new s v path)

    back : (v : ℕ) → DependsOnRefused T new (length P.classes) v → IsSeen new v
    back v (e, less, never, path) = elim (cases_eq e c) [
      | inl is ↦
          let never_c : ¬ IsAccepted T c = subst (λ (x : ℕ). ¬ IsAccepted T x) is never in
          let path_c : Reaches new.dependents (vertex_in new c) v =
          subst (λ (x : ℕ). Reaches new.dependents (vertex_in new x) v) is path in
          (s.each v).1 (inr (never_c, moved_back c c (¬ IsAccepted T c) old new s v path_c))
      | inr apart ↦
          let was : ¬ IsAccepted S e = λ (k, at). never (k, same e apart ∙ at) in
          (s.each v).1
          (inl ((are.sees v).1 (e, less, was, moved_back c e (¬ IsAccepted T c) old new s v path)))
    ]
