-- What threads may reach is what the graph of dependences reaches from where they begin.
use Rattle.std.proofs.Common.{◌≡◌, ◌↔◌, ◌⊎◌, ℕ, ◌+◌, ◌<◌, List, length, Option, Some, None, slice_get, refl, sym}
use Rattle.std.proofs.Common.{subst, ◌∙◌, inl, inr, arith}
use Rattle.std.specs.List.{Contains}
use Rattle.std.proofs.lemmas.Option.{slice_get_within}
use Rattle.graph.specs.Rows.{Rows, successors_of}
use Rattle.graph.specs.Reaches.{Reaches, itself, along, IsReached}
use Rattle.graph.proofs.RowsLemmas.{has_successor}
use Rattle.program.specs.Tables.{Tables, initializer_in}
use Rattle.hierarchy.specs.declared.member.DeclaredMember.{DeclaredMember}
use Rattle.hierarchy.specs.Selectable.{IsNamedLike}
use Rattle.use_graph.specs.declared.body.BodyUses.{BodyUses}
use Rattle.use_graph.specs.declared.whole_program.UseGraph.{UseGraph}
use Rattle.use_graph.specs.Uses.{IsDeclared, Needs}
use Rattle.use_graph.specs.steps.Bodies.{IsUseGraph}
use Rattle.use_graph.specs.steps.Deeds.{HoldsOfOne}
use Rattle.use_graph.specs.steps.CallGraphs.{IsEdge, calls, selects, named, LeadsTo}
use Rattle.use_graph.specs.steps.Searching.{StartsAt}
use Rattle.use_graph.proofs.ListLemmas.{one_of}
use Rattle.initializer_analysis.specs.steps.Dependence.{vertex_of, ClassDependsOn, IsDependence}
use Rattle.audit.specs.Reach.{Part, Method, Initialization, MayReach, main, entry, called, needed, before, initializer}
use Rattle.audit.specs.steps.Reaching.{IsFirstVertex}

module _ (P : Tables) (uses : UseGraph) (graph : Rows) (whole : IsUseGraph P uses) (is : IsDependence P uses graph)
    (entries from : List ℕ)
    (first : (v : ℕ) → Contains from v ↔ HoldsOfOne (IsFirstVertex P uses) entries v) where
  methods : List DeclaredMember
  methods = uses.methods

  declared : (n : ℕ) (x : DeclaredMember) → slice_get uses.methods n ≡ Some x → IsDeclared P x.class x.index
  declared n x at = (whole.methods x.class x.index).1 (n, at)

  method_low : (n : ℕ) (x : DeclaredMember) → slice_get uses.methods n ≡ Some x → n < length uses.calls
  method_low n x at =
      (let small = slice_get_within uses.methods n x at in omega (arith, whole.calls.vertices))

  same_method : (n : ℕ) (x y : DeclaredMember) → slice_get uses.methods n ≡ Some x → slice_get uses.methods n ≡ Some y
      → x ≡ y
  same_method n x y p q = (let two : Some x ≡ Some y = sym p ∙ q in cc)

  -- ---- what is reached may be

  -- a vertex of a method, of what is selected by a name and a descriptor, or of a class
  abbrev IsMethod : ℕ → Type 0
  IsMethod v =
      (x : DeclaredMember) × (slice_get uses.methods v ≡ Some x) × MayReach P entries (Method x.class x.index)

  abbrev IsGroup : ℕ → Type 0
  IsGroup v = (r : ℕ) × (z : DeclaredMember) × (v ≡ length uses.methods + r) × (slice_get uses.methods r ≡ Some z)
      × ((e j : ℕ) → IsNamedLike P.family z e j → IsDeclared P e j → MayReach P entries (Method e j))

  abbrev IsClass : ℕ → Type 0
  IsClass v = (c : ℕ) × (vertex_of uses c ≡ v) × (c < length P.classes) × MayReach P entries (Initialization c)

  abbrev Known : ℕ → Type 0
  Known v = IsMethod v ⊎ IsGroup v ⊎ IsClass v

  apart : (n r : ℕ) (x : DeclaredMember) → slice_get uses.methods n ≡ Some x → n ≡ length uses.methods + r → ⊥
  apart n r x at same = (let small = slice_get_within uses.methods n x at in omega arith)

  class_apart : (v c : ℕ) (x : DeclaredMember) → slice_get uses.methods v ≡ Some x → vertex_of uses c ≡ v → ⊥
  class_apart v c x at same = (let small = method_low v x at in omega arith)

  group_low : (v r : ℕ) (z : DeclaredMember) → slice_get uses.methods r ≡ Some z → v ≡ length uses.methods + r
      → v < length uses.calls
  group_low v r z at same =
      (let small = slice_get_within uses.methods r z at in omega (arith, whole.calls.vertices))

  -- the method of a vertex that is known may be reached
  of_method : (n : ℕ) (x : DeclaredMember) → slice_get uses.methods n ≡ Some x → Known n
      → MayReach P entries (Method x.class x.index)
  of_method n x at (inl (y, here, runs)) =
      subst (λ (z : DeclaredMember). MayReach P entries (Method z.class z.index)) (same_method n y x here at) runs
  of_method n x at (inr (inl (r, z, same, here, like))) = absurd (apart n r x at same)
  of_method n x at (inr (inr (c, same, small, begins))) = absurd (class_apart n c x at same)

  of_group : (v r : ℕ) (z : DeclaredMember) → v ≡ length uses.methods + r → slice_get uses.methods r ≡ Some z
      → Known v → (e j : ℕ) → IsNamedLike P.family z e j → IsDeclared P e j → MayReach P entries (Method e j)
  of_group v r z same at (inl (y, here, runs)) = absurd (apart v r y here same)
  of_group v r z same at (inr (inl (q, y, also, here, like))) =
      let one : q ≡ r = omega arith in
      let both : y ≡ z = same_method r y z (subst (λ (n : ℕ). slice_get uses.methods n ≡ Some y) one here) at in
      subst (λ (x : DeclaredMember). (e j : ℕ) → IsNamedLike P.family x e j → IsDeclared P e j
      → MayReach P entries (Method e j)) both like
  of_group v r z same at (inr (inr (c, vertex, small, begins))) =
      absurd (let less = group_low v r z at same in omega arith)

  call_known : (a b : ℕ) → IsEdge P uses.methods a b → Known a → Known b
  call_known a b (calls {y = y} at to goes) known =
      inl (y, to, called (of_method a _ at known) goes (declared b y to))
  call_known a b (selects r {z = z} at group goes) known =
      inr (inl (r, z, refl, group, λ e j like there. called (of_method a _ at known) (goes e j like) there))
  call_known a b (named r {z = z} {y = y} group to like) known =
      inl (y, to, of_group a r z refl group known y.class y.index like (declared b y to))

  need_known : (a b e : ℕ) (body : BodyUses) → slice_get uses.bodies.items a ≡ Some body → Contains body.needs.items e
      → e < length P.classes → vertex_of uses e ≡ b → Known a → Known b
  need_known a b e body here need small at known =
      let (x, stands) = one_of uses.methods a
      (let less = slice_get_within uses.bodies.items a body here in omega (arith, whole.count)) in
      inr (inr (
        e,
        at,
        small,
        needed (of_method a x stands known) (((whole.bodies a x body stands here).needs e).0 need) small,
      ))

  start_known : (c b : ℕ) (start : Option ℕ) → StartsAt P uses.methods c start → start ≡ Some b
      → MayReach P entries (Initialization c) → Known b
  start_known c b None none same begins = absurd (let two : None ≡ Some b = same in cc)
  start_known c b (Some s) (m, at, number) same begins =
      let two : Some s ≡ Some b = same in
      let one : s ≡ b = cc in
      let there = subst (λ (n : ℕ). slice_get uses.methods n ≡ Some (record { class = c; index = m })) one number in
      inl (
        record { class = c; index = m },
        there,
        initializer begins at (declared b (record { class = c; index = m }) there),
      )

  class_known : (c b : ℕ) → c < length P.classes → MayReach P entries (Initialization c)
      → Contains (successors_of graph (vertex_of uses c)) b → Known b
  class_known c b small begins edge =
      let (start, starts, row) = is.classes c small in
      elim ((row b).0 edge) [
        | inl same ↦ start_known c b start starts same begins
        | inr (p, among, (less, at)) ↦ inr (inr (p, at, less, before begins among less))
      ]

  edge_known : (a b : ℕ) → a < length uses.calls → Known a → Contains (successors_of graph a) b → Known b
  edge_known a b small known edge = elim ((is.methods a b small).0 edge) [
    | inl call ↦ call_known a b (whole.calls.sound a b call) known
    | inr (body, here, (e, need, (less, at))) ↦ need_known a b e body here need less at known
  ]

  known_next : (a b : ℕ) → Known a → Contains (successors_of graph a) b → Known b
  known_next a b (inl (x, at, runs)) edge = edge_known a b (method_low a x at) (inl (x, at, runs)) edge
  known_next a b (inr (inl (r, z, same, at, like))) edge =
      edge_known a b (group_low a r z at same) (inr (inl (r, z, same, at, like))) edge
  known_next a b (inr (inr (c, same, small, begins))) edge =
      class_known c b small begins (subst (λ (v : ℕ). Contains (successors_of graph v) b) (sym same) edge)

  first_known : (v : ℕ) → Contains from v → Known v
  first_known v among = (let (c, is_entry, which) = (first v).0 among in elim which [
    | inl (small, same) ↦ inr (inr (c, same, small, entry is_entry small))
    | inr (m, has, at) ↦
        inl (
          record { class = c; index = m },
          at,
          main is_entry has (declared v (record { class = c; index = m }) at),
        )
  ])

  reached_known : (a v : ℕ) → Contains from a → Reaches graph a v → Known v
  reached_known a v among itself = first_known a among
  reached_known a v among (along {a = b} path edge) = known_next b v (reached_known a b among path) edge

  -- ---- what may be is reached

  abbrev IsReachedPart : Part → Type 0
  IsReachedPart (Method d k) =
      (n : ℕ) × (slice_get uses.methods n ≡ Some (record { class = d; index = k })) × IsReached graph from n
  IsReachedPart (Initialization c) = (c < length P.classes) × IsReached graph from (vertex_of uses c)

  further : (a b : ℕ) → IsReached graph from a → Contains (successors_of graph a) b → IsReached graph from b
  further a b (s, among, path) edge = (s, among, along path edge)

  call_edge : (a b : ℕ) → Contains (successors_of uses.calls a) b → Contains (successors_of graph a) b
  call_edge a b edge = (is.methods a b (has_successor uses.calls a b edge)).1 (inl edge)

  leads_reached : (n e j : ℕ) → IsReached graph from n → LeadsTo uses.methods uses.calls n e j
      → IsReachedPart (Method e j)
  leads_reached n e j path (to, at, inl edge) = (to, at, further n to path (call_edge n to edge))
  leads_reached n e j path (to, at, inr (r, up, then)) = (
    to,
    at,
    further (length uses.methods + r) to (further n (length uses.methods + r) path (call_edge n _ up))
        (call_edge _ to then),
  )

  need_edge : (n d k e : ℕ) → slice_get uses.methods n ≡ Some (record { class = d; index = k }) → Needs P d k e
      → e < length P.classes → Contains (successors_of graph n) (vertex_of uses e)
  need_edge n d k e at needs small =
      let m : DeclaredMember = record { class = d; index = k } in
      let (body, here) = one_of uses.bodies.items n
      (let less = slice_get_within uses.methods n m at in omega (arith, whole.count)) in
      (is.methods n (vertex_of uses e) (method_low n m at)).1
      (inr (body, here, (e, ((whole.bodies n m body at here).needs e).1 needs, (small, refl))))

  start_reached : (c m : ℕ) (start : Option ℕ) → StartsAt P uses.methods c start → initializer_in P c ≡ Some m
      → IsDeclared P c m
      → ((b : ℕ) → Contains (successors_of graph (vertex_of uses c)) b ↔ ClassDependsOn P uses c start b)
      → IsReached graph from (vertex_of uses c) → IsReachedPart (Method c m)
  start_reached c m None none has there row path = absurd (none m has there)
  start_reached c m (Some s) (i, at, number) has there row path =
      let two : Some i ≡ Some m = sym at ∙ has in
      let one : i ≡ m = cc in (
        s,
        subst (λ (x : ℕ). slice_get uses.methods s ≡ Some (record { class = c; index = x })) one number,
        further (vertex_of uses c) s path ((row s).1 (inl refl)),
      )

  part_reached : {part : Part} → MayReach P entries part → IsReachedPart part
  part_reached (main {c = c} {m = m} among has there) =
      let (n, at) = (whole.methods c m).0 there in
      (n, at, (n, (first n).1 (c, among, inr (m, has, at)), itself))
  part_reached (entry {c = c} among small) =
      (small, (vertex_of uses c, (first (vertex_of uses c)).1 (c, among, inl (small, refl)), itself))
  part_reached (called {d = d} {k = k} {e = e} {j = j} runs goes there) =
      let (n, at, path) = part_reached runs in
      leads_reached n e j path (whole.calls.complete n d k e j at goes ((whole.methods e j).0 there))
  part_reached (needed {d = d} {k = k} {e = e} runs needs small) =
      let (n, at, path) = part_reached runs in
      (small, further n (vertex_of uses e) path (need_edge n d k e at needs small))
  part_reached (before {c = c} {p = p} begins among small) =
      let (less, path) = part_reached begins in
      let (start, starts, row) = is.classes c less in (
        small,
        further (vertex_of uses c) (vertex_of uses p) path ((row (vertex_of uses p)).1
            (inr (p, among, (small, refl)))),
      )
  part_reached (initializer {c = c} {m = m} begins has there) =
      let (less, path) = part_reached begins in
      let (start, starts, row) = is.classes c less in
      start_reached c m start starts has there row path

  -- ---- where they begin are vertices

  pub first_low : (v : ℕ) → Contains from v → v < length graph
  first_low v among = (let (c, is_entry, which) = (first v).0 among in elim which [
    | inl (small, same) ↦ omega (arith, is.vertices)
    | inr (m, has, at) ↦ (let small = method_low v (record { class = c; index = m }) at in omega (arith, is.vertices))
  ])

  -- ---- both

  pub are_reached : (reached : List ℕ) → ((v : ℕ) → Contains reached v ↔ IsReached graph from v)
      → (n : ℕ) (m : DeclaredMember) → slice_get uses.methods n ≡ Some m
      → ((i j : ℕ) (x : DeclaredMember) → slice_get uses.methods i ≡ Some x → slice_get uses.methods j ≡ Some x
      → i ≡ j)
      → Contains reached n ↔ MayReach P entries (Method m.class m.index)
  are_reached reached members n m at once = (
    λ among. (let (a, is_first, path) = (members n).0 among in of_method n m at (reached_known a n is_first path)),
    λ may. (let (v, here, path) = part_reached may in
        (members n).1 (subst (IsReached graph from) (once v n m here at) path)),
  )
