-- Instructions that bear a mark, as bearers of the methods in which they stand.
use Rattle.std.proofs.Common.{◌≡◌, ◌≢◌, ◌↔◌, ◌⊎◌, ◌∙◌, ℕ, ◌+◌, ◌<◌, ◌≤◌, List, [], ◌∷◌, ◌++◌, length, Option, Some}
use Rattle.std.proofs.Common.{None}
use Rattle.std.proofs.Common.{MatchOption, slice_get, slice_index_or, refl, sym, ap, subst, inl, inr, arith}
use Rattle.std.specs.List.{Contains}
use Rattle.std.proofs.lemmas.Grind.{common_steps}
use Rattle.std.proofs.lemmas.Option.{slice_get_within, slice_get_past}
use Rattle.graph.specs.Rows.{Rows}
use Rattle.graph.specs.steps.Reverse.{IsReverse}
use Rattle.graph.proofs.ReverseLemmas.{IsReverse-turned, Reaches-turned}
use Rattle.hierarchy.specs.declared.member.DeclaredMember.{DeclaredMember}
use Rattle.program.specs.Tables.{Tables, initializer_in, initializer_if}
use Rattle.use_graph.specs.declared.body.BodyUses.{BodyUses}
use Rattle.use_graph.specs.declared.body.Told.{Told}
use Rattle.use_graph.specs.declared.mark.Evidence.{Evidence}
use Rattle.use_graph.specs.declared.mark.Mark.{Mark}
use Rattle.use_graph.specs.declared.whole_program.UseGraph.{UseGraph}
use Rattle.use_graph.specs.Uses.{HasMark, IsDeclared, IsEvidence, Tells, field_class}
use Rattle.use_graph.specs.steps.Bodies.{IsUseGraph}
use Rattle.use_graph.specs.steps.Deeds.{HoldsOfOne}
use Rattle.use_graph.proofs.DeedsLemmas.{pc_of_told}
use Rattle.use_graph.proofs.ReachedLemmas.{runs_reached, reached_runs}
use Rattle.initializer_analysis.proofs.MarkingLemmas.{body_of, none_runs}
use Rattle.explain.specs.declared.bearers.Bearer.{Bearer}
use Rattle.explain.specs.declared.bearers.Pair.{Pair}
use Rattle.explain.specs.declared.bearers.VertexBearer.{VertexBearer}
use Rattle.explain.specs.steps.Bearers.{IsOf}
use Rattle.explain.specs.steps.Nearest.{AreNearest, HaveVertices}
use Rattle.explain.specs.steps.Marking.{AreSources, AreSourcesBelow, AreTold, IsMarking, IsSourceAt, IsSourceOf}
use Rattle.explain.specs.steps.Marking.{ReachesBearer}

same_some : {A : Type 0} (x y : A) → Some x ≡ Some y → x ≡ y
same_some x y e = cc

same_at : {A : Type 0} (xs : List A) (i : ℕ) (x y : A) → slice_get xs i ≡ Some x → slice_get xs i ≡ Some y → x ≡ y
same_at xs i x y p q = same_some x y (sym p ∙ q)

-- ---- sources

-- the method of a vertex has no others
pub source_at : (uses : UseGraph) (mark : Mark) (v : ℕ) (m : DeclaredMember) (b : BodyUses) (s : VertexBearer)
    → slice_get uses.methods v ≡ Some m → slice_get uses.bodies.items v ≡ Some b
    → IsSourceAt uses mark v s ↔ HoldsOfOne (IsSourceOf mark v m) b.told.items s
source_at uses mark v m b s at here = (
  λ (vertex, (n, x, is, there, (t, among, bearer))).
      let body : x ≡ b = same_at uses.bodies.items v x b there here in
      let method : n ≡ m = same_at uses.methods v n m is at in (
        t,
        subst (λ (y : BodyUses). Contains y.told.items t) body among,
        (vertex, rw (sym method) bearer),
      ),
  λ (t, among, (vertex, bearer)). (vertex, (m, b, at, here, (t, among, bearer))),
)

pub either_as : {A : Type 0} (old new : List A) (x : A) (More Other : Type 0)
    → Contains new x ↔ (Contains old x ⊎ More) → Other ↔ More → Contains new x ↔ (Contains old x ⊎ Other)
either_as old new x More Other adds same = (
  λ p. elim (adds.0 p) [ inl was ↦ inl was | inr more ↦ inr (same.1 more) ],
  λ p. elim p [ inl was ↦ adds.1 (inl was) | inr other ↦ adds.1 (inr (same.0 other)) ],
)

pub below_or : (k i : ℕ) → k < i + 1 → (k < i) ⊎ (k ≡ i)
below_or k i low = grind arith

pub below_more : (uses : UseGraph) (mark : Mark) (v : ℕ) (old new : List VertexBearer) → AreSourcesBelow uses mark v old
    → ((s : VertexBearer) → Contains new s ↔ (Contains old s ⊎ IsSourceAt uses mark v s))
    → AreSourcesBelow uses mark (v + 1) new
below_more uses mark v old new before adds s = (
  λ p. elim ((adds s).0 p) [
    | inl was ↦ (let (low, bearer) = (before s).0 was in (omega (arith, low), bearer))
    | inr (vertex, bearer) ↦ (omega (arith, vertex), rw vertex bearer)
  ],
  λ (low, bearer). (adds s).1 (elim (below_or s.vertex v low) [
    | inl less ↦ inl ((before s).1 (less, bearer))
    | inr same ↦ inr (same, rw same at bearer)
  ]),
)

pub below_all : (uses : UseGraph) (mark : Mark) (limit : ℕ) (sources : List VertexBearer) → length uses.methods ≤ limit
    → AreSourcesBelow uses mark limit sources → AreSources uses mark sources
below_all uses mark limit sources all below s = (
  λ p. ((below s).0 p).1,
  λ bearer. (below s).1 (
    (let (m, b, at, here, held) = bearer in
        let low = slice_get_within uses.methods s.vertex m at in omega (arith, low, all)),
    bearer,
  ),
)

-- ---- the table of a mark

pub have_vertices : (uses : UseGraph) (mark : Mark) (back : Rows) (sources : List VertexBearer)
    → length uses.methods ≤ length uses.calls → IsReverse uses.calls back → AreSources uses mark sources
    → HaveVertices sources (length back)
have_vertices uses mark back sources small turned are s among =
    let (m, b, at, here, held) = (are s).0 among in
    let low = slice_get_within uses.methods s.vertex m at in
    omega (arith, low, small, turned.len)

pub is_marking : (uses : UseGraph) (mark : Mark) (back : Rows) (sources : List VertexBearer) (pairs : List Pair)
    → IsReverse uses.calls back → AreSources uses mark sources → AreNearest back sources pairs
    → IsMarking uses mark pairs
is_marking uses mark back sources pairs turned are near = record {
  len = near.len ∙ turned.len;
  sound = λ v g has.
      let (u, among, path) = near.sound v g has in (
        u,
        Reaches-turned back uses.calls u v (IsReverse-turned uses.calls back turned) path,
        (are (record { vertex = u; bearer = g })).0 among,
      );
  complete = λ v g (u, path, bearer). near.complete v g (
    u,
    (are (record { vertex = u; bearer = g })).1 bearer,
    Reaches-turned uses.calls back v u turned path,
  );
}

-- ---- one class

module _ (P : Tables) (uses : UseGraph) (c : ℕ) (mark : Mark) (whole : IsUseGraph P uses) (m s : ℕ)
    (begins : initializer_in P c ≡ Some m)
    (number : slice_get uses.methods s ≡ Some (record { class = c; index = m })) where
  bearer_reached : HasMark P c mark → (g : Bearer) × (ReachesBearer uses mark s g × (g.field_class ≢ Some c))
  bearer_reached (d, k, place, runs, (t, told, (is, other))) =
      let x : DeclaredMember = record { class = d; index = k } in
      let (n, path, at) =
      runs_reached P uses.methods uses.calls whole.methods whole.calls c m s begins number d k runs in
      let (b, here) = body_of P uses whole n x at in
      let (pc, first) = pc_of_told P d k place t told in
      let item : Told = record { pc = pc; feature = t } in
      let among = ((whole.bodies n x b at here).told item).1 (place, first, told) in (
        record { at = record { class = d; index = k; pc = pc }; field_class = field_class t },
        ((n, path, (x, b, at, here, (item, among, (sym is, refl, refl, refl, refl)))), other),
      )

  reached_evidence : (g : Bearer) → ReachesBearer uses mark s g → g.field_class ≢ Some c → IsEvidence P c mark g.at
  reached_evidence g (n, path, (x, b, at, here, (t, among, (is, field, class, index, pc)))) other =
      let runs = reached_runs P uses.methods uses.calls whole.methods whole.calls c m s begins number n x at path in
      let (place, first, told) = ((whole.bodies n x b at here).told t).0 among in
      rw (class, index, pc) (runs, place, first, (t.feature, told, (sym is, λ e. other (field ∙ e))))

  pub tells_by : (pairs : List Pair) (pair : Pair) (found : Option Bearer) → IsMarking uses mark pairs
      → slice_get pairs s ≡ Some pair
      → MatchOption found ((g : Bearer) → IsOf pair g → g.field_class ≡ Some c)
      (λ g. IsOf pair g × (g.field_class ≢ Some c))
      → MatchOption found (¬ HasMark P c mark) (λ g. IsEvidence P c mark g.at)
  tells_by pairs pair None marking at none = λ has.
      let (g, (reaches, other)) = bearer_reached has in
      let (h, (q, there, of), differs) = marking.complete s g reaches (Some c) other in
      differs (none h (subst (λ (p : Pair). IsOf p h) (same_at pairs s q pair there at) of))
  tells_by pairs pair (Some g) marking at (of, other) =
      reached_evidence g (marking.sound s g (pair, at, of)) other

pub tells_none : (P : Tables) (c : ℕ) (mark : Mark) → ((m : ℕ) → initializer_in P c ≡ Some m → IsDeclared P c m → ⊥)
    → Tells P c mark None
tells_none P c mark none = λ (d, k, place, runs, bears). none_runs P c none d k runs

-- ---- all classes

-- one that is not given has no marks
past : (P : Tables) (c m : ℕ) → length P.classes ≤ c → initializer_in P c ≡ Some m → ⊥
past P c m beyond begins =
    (let none : initializer_in P c ≡ initializer_if None = ap initializer_if (slice_get_past P.classes c beyond) in
    let two : None ≡ Some m = sym none ∙ begins in cc)

pub tells_past : (P : Tables) (c : ℕ) (mark : Mark) → length P.classes ≤ c → Tells P c mark None
tells_past P c mark beyond = tells_none P c mark (λ m begins there. past P c m beyond begins)

abbrev pub AreToldBelow : Tables → Mark → ℕ → List (Option Evidence) → Type 0
AreToldBelow P mark limit row = (c : ℕ) → c < limit → Tells P c mark (slice_index_or row c None)

at_push : (row : List (Option Evidence)) (x : Option Evidence) → slice_index_or (row ++ x ∷ []) (length row) None ≡ x
at_push row x = grind (arith, common_steps)

before_push : (row : List (Option Evidence)) (x : Option Evidence) (c : ℕ) → c < length row
    → slice_index_or (row ++ x ∷ []) c None ≡ slice_index_or row c None
before_push row x c low = grind (arith, common_steps)

past_row : (row : List (Option Evidence)) (c : ℕ) → length row ≤ c → slice_index_or row c None ≡ None
past_row row c beyond = grind (arith, common_steps)

pub told_more : (P : Tables) (mark : Mark) (row new : List (Option Evidence)) (class : ℕ) (x : Option Evidence)
    → length row ≡ class → new ≡ row ++ x ∷ [] → AreToldBelow P mark class row → Tells P class mark x
    → AreToldBelow P mark (class + 1) new
told_more P mark row new class x len is below here c low = rw is (elim (below_or c class low) [
  | inl less ↦ rw (before_push row x c (omega (arith, len, less))) (below c less)
  | inr same ↦
      (let last : c ≡ length row = omega (arith, same, len) in
      rw last (rw (at_push row x) (subst (λ (n : ℕ). Tells P n mark x) (sym len) here)))
])

pub told_all : (P : Tables) (mark : Mark) (row : List (Option Evidence)) (limit : ℕ) → length row ≡ limit
    → length P.classes ≤ limit → AreToldBelow P mark limit row → AreTold P mark row
told_all P mark row limit len all below c = elim (less_or c limit) [
  | inl less ↦ below c less
  | inr beyond ↦ rw (past_row row c (omega (arith, len, beyond))) (tells_past P c mark (omega (arith, all, beyond)))
]
  where
    less_or : (c limit : ℕ) → (c < limit) ⊎ (limit ≤ c)
    less_or c limit = grind arith
