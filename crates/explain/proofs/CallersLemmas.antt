-- The nearest method on the way back from a method of a search, and rows of calls.
use Rattle.std.proofs.Common.{◌≡◌, ◌∙◌, ◌⊎◌, ℕ, ◌+◌, ◌<◌, List, [], ◌∷◌, ◌++◌, length, Option, Some, None, MatchOption}
use Rattle.std.proofs.Common.{IsSome, slice_get, refl, sym, subst, inl, inr, arith}
use Rattle.std.proofs.lemmas.Option.{slice_get_within}
use Rattle.hierarchy.specs.declared.member.DeclaredMember.{DeclaredMember}
use Rattle.hierarchy.specs.Selectable.{IsNamedLike}
use Rattle.program.specs.Tables.{Tables}
use Rattle.use_graph.specs.declared.mark.Evidence.{Evidence}
use Rattle.use_graph.specs.declared.whole_program.UseGraph.{UseGraph}
use Rattle.use_graph.specs.Uses.{Calls}
use Rattle.use_graph.specs.steps.CallGraphs.{IsEdge, calls, selects, named}
use Rattle.explain.specs.declared.search.Search.{Search}
use Rattle.explain.specs.declared.paths.PathStep.{PathStep}
use Rattle.explain.specs.Paths.{CallsAt, Lead, IsPath}
use Rattle.explain.specs.steps.Callers.{AddsCall, HasRoot, IsCaller, IsSearched, IsWay, NoneStandsAt, StandsAt}

same_some : {A : Type 0} (o : Option A) (x y : A) → o ≡ Some x → o ≡ Some y → x ≡ y
same_some o x y p q = (let two : Some x ≡ Some y = sym p ∙ q in cc)

pub one_stands : (methods : List DeclaredMember) (items : List ℕ) (place : ℕ) (x y : DeclaredMember)
    → StandsAt methods items place x → StandsAt methods items place y → x ≡ y
one_stands methods items place x y (v, at, is) (w, there, also) =
    let same : w ≡ v = same_some (slice_get items place) w v there at in
    same_some (slice_get methods v) x y is (subst (λ (n : ℕ). slice_get methods n ≡ Some y) same also)

-- ---- the way back

module _ (P : Tables) (uses : UseGraph) (search : Search) (place : ℕ) (callee : DeclaredMember)
    (way : IsWay P uses search place callee) where
  abbrev Stands : ℕ → DeclaredMember → Type 0
  Stands = StandsAt uses.methods search.seen.items

  -- a method stands before and may call it
  abbrev Calling : ℕ → Type 0
  Calling f = (f < place) × (x : DeclaredMember) × Stands f x
      × Calls P x.class x.index callee.class callee.index

  -- no method has the vertex of what is selected
  apart : (v r : ℕ) (x : DeclaredMember) → slice_get uses.methods v ≡ Some x → v ≡ length uses.methods + r → ⊥
  apart v r x at is = (let low = slice_get_within uses.methods v x at in omega (arith, low, is))

  -- an edge to what is selected leads from a method that may call all of it
  abbrev Selecting : ℕ → ℕ → Type 0
  Selecting w r = (x : DeclaredMember) × (z : DeclaredMember) × (slice_get uses.methods w ≡ Some x)
      × (slice_get uses.methods r ≡ Some z)
      × ((e j : ℕ) → IsNamedLike P.family z e j → Calls P x.class x.index e j)

  selecting : (w u r : ℕ) → u ≡ length uses.methods + r → IsEdge P uses.methods w u → Selecting w r
  selecting w u r is (calls {y = y} at to goes) = absurd (apart u r y to is)
  selecting w u r is (selects q {x = x} {z = z} at group goes) = (
    x,
    z,
    at,
    (let same : q ≡ r = omega (arith, is) in
        subst (λ (n : ℕ). slice_get uses.methods n ≡ Some z) same group),
    goes,
  )
  selecting w u r is (named q {y = y} group to like) = absurd (apart u r y to is)

  -- it is found from a method that may call it, or from what is selected
  abbrev Found : ℕ → ℕ → Type 0
  Found u v = ((x : DeclaredMember) × (slice_get uses.methods u ≡ Some x)
      × Calls P x.class x.index callee.class callee.index)
      ⊎ ((r : ℕ) × (z : DeclaredMember) × (u ≡ length uses.methods + r) × (slice_get uses.methods r ≡ Some z)
      × IsNamedLike P.family z callee.class callee.index)

  found_by : (u v : ℕ) → slice_get uses.methods v ≡ Some callee → IsEdge P uses.methods u v → Found u v
  found_by u v here (calls {x = x} {y = y} at to goes) =
      let same : y ≡ callee = same_some (slice_get uses.methods v) y callee to here in
      inl (x, at, subst (λ (m : DeclaredMember). Calls P x.class x.index m.class m.index) same goes)
  found_by u v here (selects r at group goes) = absurd (apart v r callee here refl)
  found_by u v here (named r {z = z} {y = y} group to like) =
      let same : y ≡ callee = same_some (slice_get uses.methods v) y callee to here in
      inr (r, z, refl, group, subst (λ (m : DeclaredMember). IsNamedLike P.family z m.class m.index) same like)

  -- from its finder, or from the finder of that, which is no method
  abbrev Back : ℕ → Type 0
  Back f = Calling f ⊎ (NoneStandsAt uses.methods search.seen.items f × (g : ℕ)
      × (slice_get search.finders.items f ≡ Some g) × Calling g)

  not_first : (f u r : ℕ) → slice_get search.seen.items f ≡ Some u → u ≡ length uses.methods + r → 0 < f
  not_first f u r at is = elim (first_or f) [
    | inl far ↦ far
    | inr first ↦ absurd (no_root (way.root u (subst (λ (n : ℕ). slice_get search.seen.items n ≡ Some u) first at)))
  ]
    where
      first_or : (f : ℕ) → (0 < f) ⊎ (f ≡ 0)
      first_or f = grind arith

      no_root : IsSome (slice_get uses.methods u) → ⊥
      no_root some = by (slice_get uses.methods u) refl some
        where
          by : (o : Option DeclaredMember) → slice_get uses.methods u ≡ o → IsSome o → ⊥
          by None none some = absurd cc
          by (Some x) here some = apart u r x here is

  second : (f u r : ℕ) (z : DeclaredMember) → f < place → slice_get search.seen.items f ≡ Some u
      → u ≡ length uses.methods + r → slice_get uses.methods r ≡ Some z
      → IsNamedLike P.family z callee.class callee.index → Back f
  second f u r z low at is group like =
      let (g, w, less, finder, stands, leads) = way.tree.found f u (not_first f u r at is) at in
      let (x, y, here, there, goes) = selecting w u r is (way.graph.calls.sound w u leads) in
      let same : y ≡ z = same_some (slice_get uses.methods r) y z there group in
      inr (
        λ m (v, stand, method). apart u r m
            (let one : v ≡ u = same_some (slice_get search.seen.items f) v u stand at in
            subst (λ (n : ℕ). slice_get uses.methods n ≡ Some m) one method) is,
        g,
        finder,
        (
          omega (arith, less, low),
          x,
          (w, stands, here),
          goes callee.class callee.index
              (subst (λ (m : DeclaredMember). IsNamedLike P.family m callee.class callee.index) (sym same) like),
        ),
      )

  pub way_back : (f : ℕ) × (slice_get search.finders.items place ≡ Some f) × Back f
  way_back =
      let (v, at, here) = way.here in
      let (f, u, low, finder, stands, leads) = way.tree.found place v way.far at in (
        f,
        finder,
        elim (found_by u v here (way.graph.calls.sound u v leads)) [
          | inl (x, method, goes) ↦ inl (low, x, (u, stands, method), goes)
          | inr (r, z, is, group, like) ↦ second f u r z low stands is group like
        ],
      )

  -- ---- what is answered

  caller_at : (step : PathStep) (f : ℕ) → step.place ≡ f → Stands f step.method → Calling f
      → IsCaller P uses search place callee step
  caller_at step f is stands (low, x, here, goes) =
      let same : x ≡ step.method = one_stands uses.methods search.seen.items f x step.method here stands in
      record {
        before = omega (arith, low, is);
        here = subst (λ (n : ℕ). Stands n step.method) (sym is) stands;
        calls = subst (λ (m : DeclaredMember). Calls P m.class m.index callee.class callee.index) same goes;
      }

  -- a method stands at the finder
  pub first_back : (step : PathStep) (f : ℕ) → slice_get search.finders.items place ≡ Some f → step.place ≡ f
      → Stands f step.method → IsCaller P uses search place callee step
  first_back step f finder is stands =
      let (g, found, back) = way_back in
      let same : g ≡ f = same_some (slice_get search.finders.items place) g f found finder in
      elim back [
        | inl calling ↦ caller_at step f is stands (subst Calling same calling)
        | inr (none, h, before, calling) ↦ absurd (none step.method
            (subst (λ (n : ℕ). Stands n step.method) (sym same) stands))
      ]

  -- none does: then its finder is there, and a method
  pub second_back : (f : ℕ) → slice_get search.finders.items place ≡ Some f
      → NoneStandsAt uses.methods search.seen.items f → (g : ℕ) × (slice_get search.finders.items f ≡ Some g)
      × Calling g
  second_back f finder none =
      let (g, found, back) = way_back in
      let same : g ≡ f = same_some (slice_get search.finders.items place) g f found finder in
      elim back [
        | inl (low, x, here, goes) ↦ absurd (none x (subst (λ (n : ℕ). Stands n x) same here))
        | inr (other, h, before, calling) ↦ (
          h,
          subst (λ (n : ℕ). slice_get search.finders.items n ≡ Some h) same before,
          calling,
        )
      ]

  pub none_back : slice_get search.finders.items place ≡ None → ⊥
  none_back none = (let (f, finder, back) = way_back in let two : None ≡ Some f = sym none ∙ finder in cc)

  pub no_second : (f : ℕ) → slice_get search.finders.items place ≡ Some f
      → NoneStandsAt uses.methods search.seen.items f → slice_get search.finders.items f ≡ None → ⊥
  no_second f finder none missing =
      (let (g, before, calling) = second_back f finder none in let two : None ≡ Some g = sym missing ∙ before in cc)

  -- what stands at the second finder
  pub last_back : (f g : ℕ) (step : Option PathStep) → slice_get search.finders.items place ≡ Some f
      → NoneStandsAt uses.methods search.seen.items f → slice_get search.finders.items f ≡ Some g
      → MatchOption step (NoneStandsAt uses.methods search.seen.items g)
      (λ step. (step.place ≡ g) × Stands g step.method)
      → MatchOption step ⊥ (IsCaller P uses search place callee)
  last_back f g step finder none before at = by step at
    where
      calling : Calling g
      calling = (let (h, there, calling) = second_back f finder none in
          subst Calling (same_some (slice_get search.finders.items f) h g there before) calling)

      by : (step : Option PathStep)
          → MatchOption step (NoneStandsAt uses.methods search.seen.items g)
          (λ step. (step.place ≡ g) × Stands g step.method) → MatchOption step ⊥ (IsCaller P uses search place callee)
      by None missing = missing calling.1 calling.2
      by (Some step) (is, stands) = caller_at step g is stands calling

-- ---- rows of calls

-- one more call leads there from further away
pub lead_more : (P : Tables) (d k e j : ℕ) (path : List Evidence) (call : Evidence) → Lead P d k e j path
    → CallsAt P call.class call.index call.pc d k → Lead P call.class call.index e j (path ++ call ∷ [])
lead_more P d k e j [] call (same, also) goes = (
  subst (λ (n : ℕ). CallsAt P call.class call.index call.pc e n) also
      (subst (λ (n : ℕ). CallsAt P call.class call.index call.pc n k) same goes),
  (refl, refl),
)
lead_more P d k e j (next ∷ path) call (first, rest) goes =
    (first, lead_more P d k next.class next.index path call rest goes)

pub lead_added : (P : Tables) (y callee caller : DeclaredMember) (old new : List Evidence)
    → Lead P callee.class callee.index y.class y.index old → AddsCall P callee caller old new
    → Lead P caller.class caller.index y.class y.index new
lead_added P y callee caller old new before (call, is, class, index, goes) =
    subst (λ (l : List Evidence). Lead P caller.class caller.index y.class y.index l) (sym is)
    (subst (λ (n : ℕ). Lead P caller.class n y.class y.index (old ++ call ∷ [])) index
    (subst (λ (n : ℕ). Lead P n call.index y.class y.index (old ++ call ∷ [])) class
    (lead_more P callee.class callee.index y.class y.index old call before
    (subst (λ (n : ℕ). CallsAt P call.class n call.pc callee.class callee.index) (sym index)
    (subst (λ (n : ℕ). CallsAt P n caller.index call.pc callee.class callee.index) (sym class) goes)))))

-- from the first method of a search, which is the class initialization method of a class
pub is_path : (P : Tables) (uses : UseGraph) (c place : ℕ) (searching : Search) (path : List Evidence)
    (y : DeclaredMember) → IsSearched P uses c searching → StandsAt uses.methods searching.seen.items place y
    → ((x y : DeclaredMember) → StandsAt uses.methods searching.seen.items 0 x
    → StandsAt uses.methods searching.seen.items place y → Lead P x.class x.index y.class y.index path)
    → IsPath P c y.class y.index path
is_path P uses c place searching path y searched here lead = by (slice_get searching.seen.items 0) refl
  where
    by : (o : Option ℕ) → slice_get searching.seen.items 0 ≡ o → IsPath P c y.class y.index path
    by None none = absurd (empty searching.seen.items place here.0 none here.1)
      where
        empty : (items : List ℕ) (p v : ℕ) → slice_get items 0 ≡ None → slice_get items p ≡ Some v → ⊥
        empty [] p v none at = absurd cc
        empty (x ∷ items) p v none at = absurd cc
    by (Some v) at =
        let (m, begins, method) = searched.root v at in
        (m, begins, lead (record { class = c; index = m }) y (v, at, method) here)

pub has_root : (P : Tables) (uses : UseGraph) (c : ℕ) (searching : Search) → IsSearched P uses c searching
    → HasRoot uses searching
has_root P uses c searching searched v at =
    (let (m, begins, method) = searched.root v at in
    subst (λ (o : Option DeclaredMember). IsSome o) (sym method) refl)
