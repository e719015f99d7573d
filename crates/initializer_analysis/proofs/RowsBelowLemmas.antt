-- A graph of what classes and methods depend on, while it is made.
use Rattle.std.proofs.Common.{◌≡◌, ◌↔◌, ◌⊎◌, ℕ, ◌+◌, ◌*◌, ◌<◌, ◌≤◌, List, [], length, Option, Some, None}
use Rattle.std.proofs.Common.{slice_get, replicate, sym, ap, subst, ◌∙◌, inl, inr, arith}
use Rattle.std.specs.List.{Contains}
use Rattle.std.proofs.lemmas.List.{length-replicate}
use Rattle.std.proofs.lemmas.Grind.{common_steps}
use Rattle.graph.specs.Rows.{Rows, successors_of}
use Rattle.program.specs.Tables.{Tables, order_in}
use Rattle.use_graph.specs.declared.body.BodyUses.{BodyUses}
use Rattle.use_graph.specs.declared.whole_program.UseGraph.{UseGraph}
use Rattle.use_graph.specs.steps.Bodies.{IsUseGraph}
use Rattle.use_graph.specs.steps.Deeds.{HoldsOfOne}
use Rattle.use_graph.specs.steps.Searching.{StartsAt}
use Rattle.initializer_analysis.specs.steps.Dependence.{vertex_of, HaveVertices, IsVertexOf, IsNeededVertex}
use Rattle.initializer_analysis.specs.steps.Dependence.{DependsAt, ClassDependsOn, IsClassRow, IsDependence, AddsFrom}
use Rattle.initializer_analysis.specs.steps.Dependence.{AddsClass, IsDependenceBelow}
use Rattle.initializer_analysis.proofs.AddsFromLemmas.{adds_none, adds_same, adds_then}

-- ---- one vertex

module _ (P : Tables) (uses : UseGraph) (v : ℕ) where
  pub needed_vertex : (old new : Rows) (body : BodyUses) (row : List ℕ) → slice_get uses.bodies.items v ≡ Some body
      → row ≡ body.needs.items → AddsFrom old new v (HoldsOfOne (IsVertexOf P uses) row)
      → AddsFrom old new v (IsNeededVertex P uses v)
  needed_vertex old new body row at is adds =
      adds_same old new v (HoldsOfOne (IsVertexOf P uses) row) (IsNeededVertex P uses v)
      (λ b. (
        λ one. (body, at, subst (λ (l : List ℕ). HoldsOfOne (IsVertexOf P uses) l b) is one),
        λ (other, also, one). (let two : Some other ≡ Some body = sym also ∙ at in
            let same : other ≡ body = cc in
            subst (λ (l : List ℕ). HoldsOfOne (IsVertexOf P uses) l b) (sym is)
            (subst (λ (x : BodyUses). HoldsOfOne (IsVertexOf P uses) x.needs.items b) same one)),
      ))
      adds

  pub no_needed_vertex : (old : Rows) → slice_get uses.bodies.items v ≡ None
      → AddsFrom old old v (IsNeededVertex P uses v)
  no_needed_vertex old none = adds_none old v (IsNeededVertex P uses v)
      (λ b (body, at, one). absurd (let two : None ≡ Some body = sym none ∙ at in cc))

  pub depends_at : (old mid new : Rows) (row : List ℕ) → row ≡ successors_of uses.calls v
      → AddsFrom old mid v (Contains row) → AddsFrom mid new v (IsNeededVertex P uses v)
      → AddsFrom old new v (DependsAt P uses v)
  depends_at old mid new row is first then =
      adds_then old mid new v (Contains (successors_of uses.calls v)) (IsNeededVertex P uses v)
      (subst (λ (l : List ℕ). AddsFrom old mid v (Contains l)) is first) then

-- ---- how many vertices there are

pub calls_few : (P : Tables) (uses : UseGraph) → IsUseGraph P uses → length uses.calls ≤ 2 * (65535 * 65535)
calls_few P uses whole = omega (arith, whole.calls.vertices, whole.few)

pub vertices_of : (P : Tables) (uses : UseGraph) (graph : Rows) (limit count : ℕ) → IsUseGraph P uses
    → IsDependence P uses graph → limit ≡ length P.classes → count ≡ length graph → HaveVertices uses limit count
vertices_of P uses graph limit count whole is limited counted =
    record { few = calls_few P uses whole; vertices = omega (arith, is.vertices, limited, counted) }

pub vertex_low : (P : Tables) (uses : UseGraph) (graph : Rows) (class vertex : ℕ)
    → length graph ≡ length uses.calls + length P.classes → class < length P.classes → vertex ≡ vertex_of uses class
    → vertex < length graph
vertex_low P uses graph class vertex vertices low is = omega (arith, vertices, low, is)

pub all_vertices : (P : Tables) (uses : UseGraph) (graph : Rows) (count vertex : ℕ) → count ≡ length P.classes
    → vertex ≡ vertex_of uses count → graph ≡ replicate vertex []
    → graph ≡ replicate (length uses.calls + length P.classes) []
all_vertices P uses graph count vertex counted is none =
    none ∙ ap (λ (n : ℕ). replicate n []) (is ∙ ap (vertex_of uses) counted)

-- ---- one class

pub class_edge : (P : Tables) (uses : UseGraph) (old new : Rows) (from class vertex : ℕ) → class < length P.classes
    → vertex ≡ vertex_of uses class → AddsFrom old new from (λ b. vertex ≡ b)
    → AddsFrom old new from (IsVertexOf P uses class)
class_edge P uses old new from class vertex low is adds =
    adds_same old new from (λ b. vertex ≡ b) (IsVertexOf P uses class)
    (λ b. (λ at. (low, sym is ∙ at), λ given. is ∙ given.1)) adds

pub class_beyond : (P : Tables) (uses : UseGraph) (old : Rows) (from class : ℕ) → length P.classes ≤ class
    → AddsFrom old old from (IsVertexOf P uses class)
class_beyond P uses old from class beyond =
    adds_none old from (IsVertexOf P uses class) (λ b given. absurd (omega (arith, given.0)))

pub no_start : (old : Rows) (v : ℕ) → AddsFrom old old v (λ b. None ≡ Some b)
no_start old v = adds_none old v (λ b. None ≡ Some b) (λ b is. absurd (let same : None ≡ Some b = is in cc))

pub start_added : (old new : Rows) (v start : ℕ) → AddsFrom old new v (λ b. start ≡ b)
    → AddsFrom old new v (λ b. Some start ≡ Some b)
start_added old new v start adds = adds_same old new v (λ b. start ≡ b) (λ b. Some start ≡ Some b)
    (λ b. (λ is. ap Some is, λ both. (let two : Some start ≡ Some b = both in cc))) adds

pub class_added : (P : Tables) (uses : UseGraph) (c : ℕ) (old mid new : Rows) (start : Option ℕ) (order : List ℕ)
    → order ≡ order_in P c → StartsAt P uses.methods c start
    → AddsFrom old mid (vertex_of uses c) (λ b. start ≡ Some b)
    → AddsFrom mid new (vertex_of uses c) (HoldsOfOne (IsVertexOf P uses) order) → AddsClass P uses c old new
class_added P uses c old mid new start order is starts first then = (
  start,
  starts,
  adds_then old mid new (vertex_of uses c) (λ b. start ≡ Some b) (HoldsOfOne (IsVertexOf P uses) (order_in P c)) first
      (subst (λ (l : List ℕ). AddsFrom mid new (vertex_of uses c) (HoldsOfOne (IsVertexOf P uses) l)) is then),
)

-- ---- the vertices below a limit

fresh_row : (old new : Rows) (v : ℕ) (Q : ℕ → Type 0) → successors_of old v ≡ [] → AddsFrom old new v Q
    → (b : ℕ) → Contains (successors_of new v) b ↔ Q b
fresh_row old new v Q empty adds b = (
  λ p. elim ((adds.row b).0 p) [
    | inl was ↦ absurd (let (k, small, e) = subst (λ (l : List ℕ). Contains l b) empty was in nothing k small)
    | inr q ↦ q
  ],
  λ q. (adds.row b).1 (inr q),
)
  where
    nothing : (k : ℕ) → k < length {A = ℕ} [] → ⊥
    nothing k small = grind (arith, common_steps)

same_row : (old new : Rows) (n b : ℕ) (Q : Type 0) → successors_of new n ≡ successors_of old n
    → (Contains (successors_of old n) b ↔ Q) → Contains (successors_of new n) b ↔ Q
same_row old new n b Q same row = subst (λ (l : List ℕ). Contains l b ↔ Q) (sym same) row

below_or_at : (n v : ℕ) → n < v + 1 → (n < v) ⊎ (n ≡ v)
below_or_at n v low = grind arith

module _ (P : Tables) (uses : UseGraph) where
  pub below_none : (graph : Rows) → graph ≡ replicate (length uses.calls + length P.classes) []
      → IsDependenceBelow P uses 0 graph
  below_none graph is = subst (λ (g : Rows). IsDependenceBelow P uses 0 g) (sym is) (record {
    vertices = length-replicate _ _;
    methods = λ v b low small. absurd (omega arith);
    classes = λ c low small. absurd (omega arith);
    empty = λ v h. none (length uses.calls + length P.classes) v;
  })
    where
      none : (n v : ℕ) → successors_of (replicate n []) v ≡ []
      none n v = grind (arith, common_steps)

  pub below_vertex : (old new : Rows) (v : ℕ) → v < length uses.calls → IsDependenceBelow P uses v old
      → AddsFrom old new v (DependsAt P uses v) → IsDependenceBelow P uses (v + 1) new
  below_vertex old new v inside before adds = record {
    vertices = adds.len ∙ before.vertices;
    methods = λ n b low small. elim (below_or_at n v low) [
      | inl less ↦ same_row old new n b (DependsAt P uses n b) (adds.others n (omega arith))
          (before.methods n b less small)
      | inr same ↦ subst (λ (x : ℕ). Contains (successors_of new x) b ↔ DependsAt P uses x b) (sym same)
          (fresh_row old new v (DependsAt P uses v) (before.empty v (omega arith)) adds b)
    ];
    classes = λ c low small. absurd (omega arith);
    empty = λ n high. adds.others n (omega arith) ∙ before.empty n (omega arith);
  }

  row_kept : (old new : Rows) (c : ℕ) → successors_of new (vertex_of uses c) ≡ successors_of old (vertex_of uses c)
      → IsClassRow P uses old c → IsClassRow P uses new c
  row_kept old new c same (start, starts, row) = (
    start,
    starts,
    λ b. same_row old new (vertex_of uses c) b (ClassDependsOn P uses c start b) same (row b),
  )

  row_added : (old new : Rows) (c : ℕ) → successors_of old (vertex_of uses c) ≡ [] → AddsClass P uses c old new
      → IsClassRow P uses new c
  row_added old new c empty (start, starts, adds) =
      (start, starts, fresh_row old new (vertex_of uses c) (ClassDependsOn P uses c start) empty adds)

  pub below_class : (old new : Rows) (c : ℕ) → c < length P.classes → IsDependenceBelow P uses (vertex_of uses c) old
      → AddsClass P uses c old new → IsDependenceBelow P uses (vertex_of uses (c + 1)) new
  below_class old new c inside before added = record {
    vertices = added.2.len ∙ before.vertices;
    methods = λ n b low small. same_row old new n b (DependsAt P uses n b) (added.2.others n (omega arith))
        (before.methods n b (omega arith) small);
    classes = λ e low small. elim (below_or_at e c (omega arith)) [
      | inl less ↦ row_kept old new e (added.2.others (vertex_of uses e) (omega arith))
          (before.classes e (omega arith) small)
      | inr same ↦ subst (λ (x : ℕ). IsClassRow P uses new x) (sym same)
          (row_added old new c (before.empty (vertex_of uses c) (omega arith)) added)
    ];
    empty = λ n high. added.2.others n (omega arith) ∙ before.empty n (omega arith);
  }

  pub below_same : (n m : ℕ) (graph : Rows) → n ≡ m → IsDependenceBelow P uses n graph
      → IsDependenceBelow P uses m graph
  below_same n m graph same below = subst (λ (x : ℕ). IsDependenceBelow P uses x graph) same below

  pub below_all : (graph : Rows) (c : ℕ) → length P.classes ≤ c → IsDependenceBelow P uses (vertex_of uses c) graph
      → IsDependence P uses graph
  below_all graph c whole below = record {
    vertices = below.vertices;
    methods = λ v b small. below.methods v b (omega arith) small;
    classes = λ e small. below.classes e (omega arith) small;
  }
