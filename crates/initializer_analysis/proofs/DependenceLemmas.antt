-- What a class uses is what its vertex reaches.
use Rattle.std.proofs.Common.{◌≡◌, ◌≢◌, ◌↔◌, ◌⊎◌, ℕ, ◌*◌, ◌<◌, List, length, Option, Some, None, slice_get, refl}
use Rattle.std.proofs.Common.{sym, ap, subst, ◌∙◌, inl, inr, arith}
use Rattle.std.specs.List.{Contains}
use Rattle.std.proofs.lemmas.Option.{slice_get_within}
use Rattle.graph.specs.Rows.{Rows, successors_of}
use Rattle.graph.specs.Reaches.{Reaches, itself, along}
use Rattle.graph.specs.Components.{AreMutual}
use Rattle.graph.proofs.RowsLemmas.{has_successor}
use Rattle.graph.proofs.ReachesLemmas.{Reaches-joined}
use Rattle.program.specs.Tables.{Tables, initializer_in, order_in}
use Rattle.hierarchy.specs.declared.member.DeclaredMember.{DeclaredMember}
use Rattle.use_graph.specs.declared.body.BodyUses.{BodyUses}
use Rattle.use_graph.specs.declared.whole_program.UseGraph.{UseGraph}
use Rattle.use_graph.specs.Uses.{MayRun, Needs, MayNeed, IsUse}
use Rattle.use_graph.specs.steps.Bodies.{IsUseGraph}
use Rattle.use_graph.specs.steps.CallGraphs.{IsEdge, calls, selects, named}
use Rattle.use_graph.specs.steps.Searching.{StartsAt}
use Rattle.use_graph.proofs.ReachedLemmas.{runs_reached, reached_runs, run_begins}
use Rattle.initializer_analysis.specs.Verdicts.{UsesAlong, one, more}
use Rattle.initializer_analysis.specs.steps.Dependence.{vertex_of, ClassDependsOn, IsDependence}
use Rattle.use_graph.proofs.ListLemmas.{one_of}

-- ---- uses of uses

pub uses_below : (P : Tables) (c e : ℕ) → UsesAlong P c e → e < length P.classes
uses_below P c e (one used) = used.0
uses_below P c e (more before used) = used.0

pub uses_joined : (P : Tables) (a b c : ℕ) → UsesAlong P a b → UsesAlong P b c → UsesAlong P a c
uses_joined P a b c first (one used) = more first used
uses_joined P a b c first (more {d = d} then used) = more (uses_joined P a b d first then) used

-- the first use, and the others
pub first_use : (P : Tables) (c e : ℕ) → UsesAlong P c e
    → IsUse P c e ⊎ ((d : ℕ) × IsUse P c d × UsesAlong P d e)
first_use P c e (one used) = inl used
first_use P c e (more {d = d} before used) = elim (first_use P c d before) [
  | inl first ↦ inr (d, first, one used)
  | inr (x, first, rest) ↦ inr (x, first, more rest used)
]

same_or_other : (n m : ℕ) → (n ≡ m) ⊎ (n ≢ m)
same_or_other n m = grind arith

edge_low : (P : Tables) (methods : List DeclaredMember) (n to : ℕ) → IsEdge P methods n to → to < 2 * length methods
edge_low P methods n to (calls {y = y} at there goes) =
    (let low = slice_get_within methods to y there in omega arith)
edge_low P methods n to (selects r {z = z} at group goes) =
    (let low = slice_get_within methods r z group in omega arith)
edge_low P methods n to (named r {y = y} group there like) =
    (let low = slice_get_within methods to y there in omega arith)

module _ (P : Tables) (uses : UseGraph) (graph : Rows) (whole : IsUseGraph P uses)
    (is : IsDependence P uses graph) where
  -- ---- what is used is reached

  method_low : (n : ℕ) (x : DeclaredMember) → slice_get uses.methods n ≡ Some x → n < length uses.calls
  method_low n x at =
      (let low = slice_get_within uses.methods n x at in omega (arith, whole.calls.vertices))

  calls_reach : (s v : ℕ) → Reaches uses.calls s v → Reaches graph s v
  calls_reach s v itself = itself
  calls_reach s v (along {a = a} before edge) =
      along (calls_reach s a before) ((is.methods a v (has_successor uses.calls a v edge)).1 (inl edge))

  need_edge : (n d k e : ℕ) → slice_get uses.methods n ≡ Some (record { class = d; index = k }) → Needs P d k e
      → e < length P.classes → Contains (successors_of graph n) (vertex_of uses e)
  need_edge n d k e at needs low =
      let m : DeclaredMember = record { class = d; index = k } in
      let (body, here) = one_of uses.bodies.items n
      (let less = slice_get_within uses.methods n m at in omega (arith, whole.count)) in
      (is.methods n (vertex_of uses e) (method_low n m at)).1
      (inr (body, here, (e, ((whole.bodies n m body at here).needs e).1 needs, (low, refl))))

  -- the vertex of a class's class initialization method, to which an edge leads
  abbrev pub IsStart : ℕ → ℕ → ℕ → Type 0
  IsStart c m s = (initializer_in P c ≡ Some m)
      × (slice_get uses.methods s ≡ Some (record { class = c; index = m }))
      × Contains (successors_of graph (vertex_of uses c)) s

  start_edge : (c d k : ℕ) (start : Option ℕ) → MayRun P c d k → StartsAt P uses.methods c start
      → ((b : ℕ) → Contains (successors_of graph (vertex_of uses c)) b ↔ ClassDependsOn P uses c start b)
      → (m : ℕ) × (s : ℕ) × IsStart c m s
  start_edge c d k None runs none row =
      absurd (let (m, at, there) = run_begins P c d k runs in none m at there)
  start_edge c d k (Some s) runs (m, begins, number) row = (m, s, (begins, number, (row s).1 (inl refl)))

  need_reached : (c d k e : ℕ) → c < length P.classes → MayRun P c d k → Needs P d k e → e < length P.classes
      → Reaches graph (vertex_of uses c) (vertex_of uses e)
  need_reached c d k e low runs needs less =
      let (start, starts, row) = is.classes c low in
      let (m, s, (begins, number, edge)) = start_edge c d k start runs starts row in
      let (n, path, at) =
      runs_reached P uses.methods uses.calls whole.methods whole.calls c m s begins number d k runs in
      along (Reaches-joined graph (vertex_of uses c) s n (along itself edge) (calls_reach s n path))
      (need_edge n d k e at needs less)

  pub use_reached : (c e : ℕ) → IsUse P c e → c < length P.classes → Reaches graph (vertex_of uses c) (vertex_of uses e)
  use_reached c e (less, other, inl before) low =
      (let (start, starts, row) = is.classes c low in
      along itself ((row (vertex_of uses e)).1 (inr (e, before, (less, refl)))))
  use_reached c e (less, other, inr (d, k, runs, needs)) low = need_reached c d k e low runs needs less

  pub along_reached : (c e : ℕ) → UsesAlong P c e → c < length P.classes
      → Reaches graph (vertex_of uses c) (vertex_of uses e)
  along_reached c e (one used) low = use_reached c e used low
  along_reached c e (more {d = d} before used) low =
      Reaches-joined graph (vertex_of uses c) (vertex_of uses d) (vertex_of uses e) (along_reached c d before low)
      (use_reached d e used (uses_below P c d before))

  -- ---- what is reached is used

  -- calls reach it from the class initialization method of a class
  abbrev pub MayRunAt : ℕ → ℕ → Type 0
  MayRunAt c v = (m : ℕ) × (s : ℕ) × IsStart c m s × Reaches uses.calls s v

  abbrev pub IsOf : ℕ → ℕ → Type 0
  IsOf c v = (v ≡ vertex_of uses c) ⊎ MayRunAt c v

  abbrev pub IsKnown : ℕ → ℕ → Type 0
  IsKnown c v = IsOf c v ⊎ ((e : ℕ) × UsesAlong P c e × IsOf e v)

  reached_low : (s v : ℕ) → Reaches uses.calls s v → s < length uses.calls → v < length uses.calls
  reached_low s v itself low = low
  reached_low s v (along {a = a} before edge) low =
      (let less = edge_low P uses.methods a v (whole.calls.sound a v edge) in omega (arith, whole.calls.vertices))

  run_low : (c v : ℕ) → MayRunAt c v → v < length uses.calls
  run_low c v (m, s, (begins, number, edge), path) =
      reached_low s v path (method_low s (record { class = c; index = m }) number)

  -- one edge on: of the same class, or to the vertex of a class that it uses
  abbrev IsNext : ℕ → ℕ → Type 0
  IsNext c b = IsOf c b ⊎ ((e : ℕ) × IsUse P c e × (b ≡ vertex_of uses e))

  next_class : (c e b : ℕ) → e < length P.classes → vertex_of uses e ≡ b
      → (Contains (order_in P c) e ⊎ MayNeed P c e) → IsNext c b
  next_class c e b low at why = elim (same_or_other e c) [
    | inl same ↦ inl (inl (sym at ∙ ap (vertex_of uses) same))
    | inr other ↦ inr (e, (low, other, why), sym at)
  ]

  from_start : (c b : ℕ) (start : Option ℕ) → StartsAt P uses.methods c start
      → Contains (successors_of graph (vertex_of uses c)) b → start ≡ Some b → MayRunAt c b
  from_start c b None none edge is = absurd (let two : None ≡ Some b = is in cc)
  from_start c b (Some s) (m, begins, number) edge is =
      let two : Some s ≡ Some b = is in
      let same : s ≡ b = cc in (
        m,
        b,
        (
          begins,
          subst (λ (n : ℕ). slice_get uses.methods n ≡ Some (record { class = c; index = m })) same number,
          edge,
        ),
        itself,
      )

  from_class : (c b : ℕ) (start : Option ℕ) → StartsAt P uses.methods c start
      → Contains (successors_of graph (vertex_of uses c)) b → ClassDependsOn P uses c start b → IsNext c b
  from_class c b start starts edge (inl is) = inl (inr (from_start c b start starts edge is))
  from_class c b start starts edge (inr (e, before, (low, at))) = next_class c e b low at (inl before)

  needed_by_run : (c v e : ℕ) (body : BodyUses) → MayRunAt c v → slice_get uses.bodies.items v ≡ Some body
      → Contains body.needs.items e → MayNeed P c e
  needed_by_run c v e body (m, s, (begins, number, edge), path) here need =
      let (x, at) = one_of uses.methods v
      (let low = slice_get_within uses.bodies.items v body here in omega (arith, whole.count)) in (
        x.class,
        x.index,
        reached_runs P uses.methods uses.calls whole.methods whole.calls c m s begins number v x at path,
        ((whole.bodies v x body at here).needs e).0 need,
      )

  from_run : (c a b : ℕ) → MayRunAt c a → Contains (successors_of graph a) b → IsNext c b
  from_run c a b runs edge = elim ((is.methods a b (run_low c a runs)).0 edge) [
    | inl call ↦ (let (m, s, start, path) = runs in inl (inr (m, s, start, along path call)))
    | inr (body, here, (e, need, (low, at))) ↦ next_class c e b low at (inr (needed_by_run c a e body runs here need))
  ]

  next : (c a b : ℕ) → c < length P.classes → IsOf c a → Contains (successors_of graph a) b → IsNext c b
  next c a b low (inl same) edge =
      (let (start, starts, row) = is.classes c low in
      let here = subst (λ (x : ℕ). Contains (successors_of graph x) b) same edge in
      from_class c b start starts here ((row b).0 here))
  next c a b low (inr runs) edge = from_run c a b runs edge

  known_next : (c a b : ℕ) → c < length P.classes → IsKnown c a → Contains (successors_of graph a) b → IsKnown c b
  known_next c a b low (inl of) edge = elim (next c a b low of edge) [
    | inl same ↦ inl same
    | inr (e, used, at) ↦ inr (e, one used, inl at)
  ]
  known_next c a b low (inr (d, before, of)) edge = elim (next d a b (uses_below P c d before) of edge) [
    | inl same ↦ inr (d, before, same)
    | inr (e, used, at) ↦ inr (e, more before used, inl at)
  ]

  -- what a class reaches is its vertex, or may run for it, or the same of a class that it uses by one use or several
  pub known_by_uses : (c v : ℕ) → Reaches graph (vertex_of uses c) v → c < length P.classes → IsKnown c v
  known_by_uses c v itself low = inl (inl refl)
  known_by_uses c v (along {a = a} before edge) low = known_next c a v low (known_by_uses c a before low) edge

  of_reached : (c v : ℕ) → IsOf c v → Reaches graph (vertex_of uses c) v
  of_reached c v (inl same) = subst (λ (x : ℕ). Reaches graph (vertex_of uses c) x) (sym same) itself
  of_reached c v (inr (m, s, (begins, number, edge), path)) =
      Reaches-joined graph (vertex_of uses c) s v (along itself edge) (calls_reach s v path)

  -- the same by the first use
  pub reached_by_uses : (c v : ℕ) → c < length P.classes → Reaches graph (vertex_of uses c) v
      → (v ≡ vertex_of uses c) ⊎ (MayRunAt c v ⊎ ((e : ℕ) × IsUse P c e × Reaches graph (vertex_of uses e) v))
  reached_by_uses c v low path = elim (known_by_uses c v path low) [
    | inl of ↦ elim of [ inl same ↦ inl same | inr runs ↦ inr (inl runs) ]
    | inr (e, uses_e, of) ↦ elim (first_use P c e uses_e) [
      | inl used ↦ inr (inr (e, used, of_reached e v of))
      | inr (d, used, rest) ↦ inr (inr (
        d,
        used,
        Reaches-joined graph (vertex_of uses d) (vertex_of uses e) v (along_reached d e rest used.0)
            (of_reached e v of),
      ))
    ]
  ]

  no_run : (c e : ℕ) → MayRunAt c (vertex_of uses e) → ⊥
  no_run c e runs = (let low = run_low c (vertex_of uses e) runs in omega arith)

  pub next_use : (c e : ℕ) → c < length P.classes → Reaches graph (vertex_of uses c) (vertex_of uses e)
      → (c ≡ e) ⊎ ((d : ℕ) × IsUse P c d × Reaches graph (vertex_of uses d) (vertex_of uses e))
  next_use c e low path = elim (reached_by_uses c (vertex_of uses e) low path) [
    | inl same ↦ inl (omega arith)
    | inr others ↦ elim others [ inl runs ↦ absurd (no_run c e runs) | inr used ↦ inr used ]
  ]

  same_class : (d e : ℕ) → IsOf e (vertex_of uses d) → d ≡ e
  same_class d e (inl same) = omega arith
  same_class d e (inr runs) = absurd (no_run e d runs)

  -- another class that a class reaches it uses, by one use or several
  pub reached_along : (c d : ℕ) → c < length P.classes → d ≢ c → Reaches graph (vertex_of uses c) (vertex_of uses d)
      → UsesAlong P c d
  reached_along c d low other path = elim (known_by_uses c (vertex_of uses d) path low) [
    | inl of ↦ absurd (other (same_class d c of))
    | inr (e, before, of) ↦ subst (λ (x : ℕ). UsesAlong P c x) (sym (same_class d e of)) before
  ]

  -- ---- cycles

  -- a class that uses itself, by several uses, is on a cycle with another
  pub cycle_of_two : (c : ℕ) → c < length P.classes → UsesAlong P c c
      → (d : ℕ) × (d ≢ c) × (d < length P.classes) × AreMutual graph (vertex_of uses c) (vertex_of uses d)
  cycle_of_two c low cycle = elim (first_use P c c cycle) [
    | inl used ↦ absurd (used.1 refl)
    | inr (d, used, rest) ↦ (d, used.1, used.0, (use_reached c d used low, along_reached d c rest used.0))
  ]

  pub two_on_cycle : (c d : ℕ) → c < length P.classes → d < length P.classes → d ≢ c
      → AreMutual graph (vertex_of uses c) (vertex_of uses d) → UsesAlong P c c
  two_on_cycle c d low less other (there, back) =
      uses_joined P c d c (reached_along c d low other there) (reached_along d c less (λ e. other (sym e)) back)
