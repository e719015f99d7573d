-- Bearers that are found one after the other.
use Rattle.std.proofs.Common.{◌≡◌, ◌≢◌, ◌⊎◌, ◌∙◌, ◌↔◌, ℕ, zero, suc, ◌+◌, ◌<◌, ◌≤◌, List, [], ◌∷◌, ◌++◌, length}
use Rattle.std.proofs.Common.{replicate}
use Rattle.std.proofs.Common.{Some, slice_get, set, get_or, refl, sym, ap, subst, inl, inr}
use Rattle.std.proofs.Common.{arith}
use Rattle.std.specs.List.{Contains, sum_by}
use Rattle.std.proofs.lemmas.Grind.{common_steps}
use Rattle.std.proofs.lemmas.List.{length_push, length-replicate}
use Rattle.std.proofs.lemmas.List.Elements.{Contains-push, Contains-push_cases, Contains-append_left}
use Rattle.std.proofs.lemmas.List.Sums.{sum_by-set}
use Rattle.std.proofs.lemmas.List.Folds.{sum_by-replicate}
use Rattle.std.proofs.lemmas.Option.{slice_get_within, slice_get-get_or, get_or_from_slice_get}
use Rattle.graph.specs.Rows.{Rows, successors_of}
use Rattle.graph.specs.Reaches.{Reaches, itself, along}
use Rattle.explain.specs.declared.bearers.Bearer.{Bearer}
use Rattle.explain.specs.declared.bearers.Pair.{Pair}
use Rattle.explain.specs.declared.bearers.VertexBearer.{VertexBearer}
use Rattle.explain.specs.steps.Nearest.{AreNearest, Has, HaveVertices, IsReachedBearer}
use Rattle.explain.specs.steps.Bearers.{IsOf, IsPair, Offers, Serves, Takes, room}
use Rattle.explain.specs.steps.Found.{AddsAll, AreFound, IsBefore, IsIn, no_pair}
use Rattle.explain.proofs.BearersLemmas.{same_or, serves_kept}
use Rattle.loading.proofs.PlaceLemmas.{contains_at, kept_at, place_in}
use Rattle.hierarchy.proofs.RowLemmas.{set_here, set_else}

-- ---- one vertex is given a bearer

abbrev pub IsThis : ℕ → Bearer → VertexBearer → Type 0
IsThis v g s = (s.vertex ≡ v) × (s.bearer ≡ g)

set_other : {A : Type 0} (xs : List A) (i j : ℕ) (b : A) → j ≢ i → slice_get (set xs i b) j ≡ slice_get xs j
set_other xs i j b other = set_else xs i j b (λ e. other (sym e))

set_len : {A : Type 0} (xs : List A) (i : ℕ) (b : A) → length (set xs i b) ≡ length xs
set_len xs i b = grind (arith, common_steps)

same_some : {A : Type 0} (x y : A) → Some x ≡ Some y → x ≡ y
same_some x y e = cc

module _ (pairs : List Pair) (found : List VertexBearer) (v : ℕ) (g : Bearer) (here : Pair)
    (at : slice_get pairs v ≡ Some here) where
  has_of : (h : Bearer) → IsOf here h → Has pairs v h
  has_of h of = (here, at, of)

  -- it says no more
  pub adds_nothing : Offers here g → AddsAll (IsThis v g) pairs found pairs found
  adds_nothing offers = record {
    len = refl;
    keeps = λ w h has. has;
    stays = λ k s there. there;
    serves = λ s (vertex, bearer). rw (vertex, bearer) (serves_kept (IsOf here) (Has pairs v) g has_of offers);
    only = λ w h has. inl has;
  }

  module _ (pair : Pair) (takes : Takes here g pair) where
    low : v < length pairs
    low = slice_get_within pairs v here at

    new : List Pair
    new = set pairs v pair

    more : List VertexBearer
    more = found ++ (let s : VertexBearer = record { vertex = v; bearer = g } in s) ∷ []

    has_new : (h : Bearer) → IsOf pair h → Has (set pairs v pair) v h
    has_new h of = (pair, set_here pairs v pair low, of)

    keeps : (w : ℕ) (h : Bearer) → Has pairs w h → Has (set pairs v pair) w h
    keeps w h (q, there, of) = elim (same_or w v) [
      | inl same ↦ rw same (has_new h (takes.keeps h
          (subst (λ (p : Pair). IsOf p h)
          (same_some q here (sym there ∙ ap (λ (n : ℕ). slice_get pairs n) same ∙ at)) of)))
      | inr other ↦ (q, set_other pairs v w pair other ∙ there, of)
    ]

    only : (w : ℕ) (h : Bearer) → Has (set pairs v pair) w h
        → Has pairs w h ⊎ IsThis v g (record { vertex = w; bearer = h })
    only w h (q, there, of) = elim (same_or w v) [
      | inl same ↦
          (let is : q ≡ pair = same_some q pair
          (sym there ∙ ap (λ (n : ℕ). slice_get (set pairs v pair) n) same ∙ set_here pairs v pair low) in
          elim (takes.only h (subst (λ (p : Pair). IsOf p h) is of)) [
            | inl old ↦ inl (rw same (has_of h old))
            | inr bearer ↦ inr (same, bearer)
          ])
      | inr other ↦ inl (q, sym (set_other pairs v w pair other) ∙ there, of)
    ]

    pub adds_one : AddsAll (IsThis v g) pairs found (set pairs v pair)
        (found ++ (let s : VertexBearer = record { vertex = v; bearer = g } in s) ∷ [])
    adds_one = record {
      len = set_len pairs v pair;
      keeps = keeps;
      stays = λ k s there. kept_at found (record { vertex = v; bearer = g }) s k there;
      serves = λ s (vertex, bearer). rw (vertex, bearer) (λ class other. (g, has_new g takes.has, other));
      only = only;
    }

    pub found_one : AreFound pairs found → AreFound (set pairs v pair)
        (found ++ (let s : VertexBearer = record { vertex = v; bearer = g } in s) ∷ [])
    found_one are = record {
      each = λ w q there. elim (same_or w v) [
        | inl same ↦ subst IsPair (same_some pair q (sym (set_here pairs v pair low)
            ∙ ap (λ (n : ℕ). slice_get (set pairs v pair) n) (sym same) ∙ there)) takes.pair
        | inr other ↦ are.each w q (sym (set_other pairs v w pair other) ∙ there)
      ];
      held = λ s among. elim (Contains-push_cases found (record { vertex = v; bearer = g }) s among) [
        | inl was ↦ keeps s.vertex s.bearer (are.held s was)
        | inr last ↦ subst (λ (x : VertexBearer). Has (set pairs v pair) x.vertex x.bearer) last (has_new g takes.has)
      ];
      noted = λ w h has. elim (only w h has) [
        | inl old ↦ Contains-append_left found ((let s : VertexBearer = record { vertex = v; bearer = g } in s) ∷ [])
            (record { vertex = w; bearer = h }) (are.noted w h old)
        | inr (vertex, bearer) ↦ rw (vertex, bearer) (Contains-push found (record { vertex = v; bearer = g }))
      ];
      rest = (let sum = sum_by-set room pairs v pair here low in
          let was : get_or pairs v here ≡ here = get_or_from_slice_get pairs v here here at in
          let then : room (get_or pairs v here) ≡ room here = ap room was in
          omega (
            arith,
            sum,
            then,
            takes.less,
            are.rest,
            set_len pairs v pair,
            length_push found (let s : VertexBearer = record { vertex = v; bearer = g } in s),
          ));
    }

-- ---- several are

pub adds_more : (Given Also All : VertexBearer → Type 0) (a b c : List Pair) (fa fb fc : List VertexBearer)
    → AddsAll Given a fa b fb → AddsAll Also b fb c fc → ((s : VertexBearer) → All s → Given s ⊎ Also s)
    → ((s : VertexBearer) → Given s ⊎ Also s → All s) → AddsAll All a fa c fc
adds_more Given Also All a b c fa fb fc first then splits joins = record {
  len = then.len ∙ first.len;
  keeps = λ w h has. then.keeps w h (first.keeps w h has);
  stays = λ k s there. then.stays k s (first.stays k s there);
  serves = λ s all. elim (splits s all) [
    | inl given ↦ serves_kept (Has b s.vertex) (Has c s.vertex) s.bearer (then.keeps s.vertex) (first.serves s given)
    | inr also ↦ then.serves s also
  ];
  only = λ w h has. elim (then.only w h has) [
    | inl before ↦ elim (first.only w h before) [
      | inl old ↦ inl old
      | inr given ↦ inr (joins (record { vertex = w; bearer = h }) (inl given))
    ]
    | inr also ↦ inr (joins (record { vertex = w; bearer = h }) (inr also))
  ];
}

pub adds_as : (Given All : VertexBearer → Type 0) (a b : List Pair) (fa fb : List VertexBearer)
    → AddsAll Given a fa b fb → ((s : VertexBearer) → All s ↔ Given s) → AddsAll All a fa b fb
adds_as Given All a b fa fb adds same = record {
  len = adds.len;
  keeps = adds.keeps;
  stays = adds.stays;
  serves = λ s all. adds.serves s ((same s).0 all);
  only = λ w h has. elim (adds.only w h has) [
    | inl old ↦ inl old
    | inr given ↦ inr ((same (record { vertex = w; bearer = h })).1 given)
  ];
}

-- ---- the elements before a place

below_or : (k i : ℕ) → k < i + 1 → (k < i) ⊎ (k ≡ i)
below_or k i low = grind arith

pub before_splits : {A : Type 0} (xs : List A) (i : ℕ) (y x : A) → slice_get xs i ≡ Some y
    → IsBefore xs (i + 1) x → IsBefore xs i x ⊎ (x ≡ y)
before_splits xs i y x here (k, low, at) = elim (below_or k i low) [
  | inl less ↦ inl (k, less, at)
  | inr same ↦ inr (same_some x y (sym at ∙ ap (λ (n : ℕ). slice_get xs n) same ∙ here))
]

pub before_joins : {A : Type 0} (xs : List A) (i : ℕ) (y x : A) → slice_get xs i ≡ Some y
    → IsBefore xs i x ⊎ (x ≡ y) → IsBefore xs (i + 1) x
before_joins xs i y x here (inl (k, less, at)) = (k, omega (arith, less), at)
before_joins xs i y x here (inr same) = (i, omega arith, here ∙ ap Some (sym same))

pub before_all : {A : Type 0} (xs : List A) (i : ℕ) (x : A) → length xs ≤ i → Contains xs x ↔ IsBefore xs i x
before_all xs i x all = (
  λ among. (let (k, at) = place_in xs x among in
      (k, (let low = slice_get_within xs k x at in omega (arith, low, all)), at)),
  λ (k, low, at). contains_at xs k x at,
)

pub within_at : (sources : List VertexBearer) (limit i : ℕ) (d : VertexBearer) → HaveVertices sources limit
    → i < length sources
    → (get_or sources i d).vertex < limit
within_at sources limit i d have low =
    have (get_or sources i d) (contains_at sources i (get_or sources i d) (slice_get-get_or sources i d low))

pub replicated : (pairs : List Pair) (n : ℕ) → pairs ≡ replicate n no_pair → length pairs ≡ n
replicated pairs n is = ap length is ∙ length-replicate n no_pair

-- of sources
source_is : (s y : VertexBearer) → s.vertex ≡ y.vertex → s.bearer ≡ y.bearer → s ≡ y
source_is s y vertex bearer =
    ap (λ (v : ℕ). let x : VertexBearer = record { vertex = v; bearer = s.bearer } in x) vertex
    ∙ ap (λ (g : Bearer). let x : VertexBearer = record { vertex = y.vertex; bearer = g } in x) bearer

pub adds_source : (sources : List VertexBearer) (i : ℕ) (y : VertexBearer) (a b c : List Pair)
    (fa fb fc : List VertexBearer)
    → slice_get sources i ≡ Some y → AddsAll (IsBefore sources i) a fa b fb
    → AddsAll (IsThis y.vertex y.bearer) b fb c fc → AddsAll (IsBefore sources (i + 1)) a fa c fc
adds_source sources i y a b c fa fb fc here before one =
    adds_more (IsBefore sources i) (IsThis y.vertex y.bearer) (IsBefore sources (i + 1)) a b c fa fb fc before one
    (λ s all. elim (before_splits sources i y s here all) [
      | inl was ↦ inl was
      | inr same ↦ inr (ap (λ (x : VertexBearer). x.vertex) same, ap (λ (x : VertexBearer). x.bearer) same)
    ])
    (λ s either. before_joins sources i y s here (elim either [
      | inl was ↦ inl was
      | inr (vertex, bearer) ↦ inr (source_is s y vertex bearer)
    ]))

-- of vertices of a row
abbrev pub IsInBefore : List ℕ → ℕ → Bearer → VertexBearer → Type 0
IsInBefore row i g s = IsBefore row i s.vertex × (s.bearer ≡ g)

pub adds_vertex : (row : List ℕ) (i v : ℕ) (g : Bearer) (a b c : List Pair) (fa fb fc : List VertexBearer)
    → slice_get row i ≡ Some v → AddsAll (IsInBefore row i g) a fa b fb
    → AddsAll (IsThis v g) b fb c fc → AddsAll (IsInBefore row (i + 1) g) a fa c fc
adds_vertex row i v g a b c fa fb fc here before one =
    adds_more (IsInBefore row i g) (IsThis v g) (IsInBefore row (i + 1) g) a b c fa fb fc before one
    (λ s (all, bearer). elim (before_splits row i v s.vertex here all) [
      | inl was ↦ inl (was, bearer)
      | inr same ↦ inr (same, bearer)
    ])
    (λ s either. elim either [
      | inl (was, bearer) ↦ (before_joins row i v s.vertex here (inl was), bearer)
      | inr (same, bearer) ↦ (before_joins row i v s.vertex here (inr same), bearer)
    ])

pub in_row : (row : List ℕ) (i : ℕ) (g : Bearer) (s : VertexBearer) → length row ≤ i
    → IsIn row g s ↔ IsInBefore row i g s
in_row row i g s all = (
  λ (among, bearer). ((before_all row i s.vertex all).0 among, bearer),
  λ (before, bearer). ((before_all row i s.vertex all).1 before, bearer),
)

-- ---- the search

pub record IsSpread (back : Rows) (sources : List VertexBearer) (pairs : List Pair) (found : List VertexBearer)
    (next : ℕ) : Type 0 where
  pub len : length pairs ≡ length back
  pub are : AreFound pairs found
  pub sound : (v : ℕ) (g : Bearer) → Has pairs v g → IsReachedBearer back sources v g
  pub starts : (s : VertexBearer) → Contains sources s → Serves (Has pairs s.vertex) s.bearer
  pub closed : (k : ℕ) (s : VertexBearer) → k < next → slice_get found k ≡ Some s → (v : ℕ)
      → Contains (successors_of back s.vertex) v → Serves (Has pairs v) s.bearer
  pub up_to : next ≤ length found

no_pair_at : (n v : ℕ) (pair : Pair) → slice_get (replicate n no_pair) v ≡ Some pair → pair ≡ no_pair
no_pair_at zero v pair at = absurd cc
no_pair_at (suc n) zero pair at = sym (same_some no_pair pair at)
no_pair_at (suc n) (suc v) pair at = no_pair_at n v pair at

none_has : (pairs : List Pair) (n v : ℕ) (g : Bearer) → pairs ≡ replicate n no_pair → ¬ Has pairs v g
none_has pairs n v g is (pair, at, of) =
    let none : pair ≡ no_pair = no_pair_at n v pair (sym (ap (λ (l : List Pair). slice_get l v) is) ∙ at) in
    none_of g (subst (λ (p : Pair). IsOf p g) none of)
  where
    none_of : (g : Bearer) → ¬ IsOf no_pair g
    none_of g (inl e) = absurd cc
    none_of g (inr e) = absurd cc

pub found_none : (pairs : List Pair) (found : List VertexBearer) (n : ℕ) → pairs ≡ replicate n no_pair → found ≡ []
    → length pairs ≡ n → AreFound pairs found
found_none pairs found n is none len = record {
  each = λ v pair at.
      let same : pair ≡ no_pair = no_pair_at n v pair (sym (ap (λ (l : List Pair). slice_get l v) is) ∙ at) in
      subst IsPair (sym same) (record { order = λ g e. absurd cc; apart = λ g h e f. absurd cc });
  held = λ s (k, low, at). absurd (let no : length found ≡ 0 = ap length none in omega (arith, low, no));
  noted = λ v g has. absurd (none_has pairs n v g is has);
  rest = (let no : length found ≡ 0 = ap length none in
      let sum : sum_by room pairs ≡ sum_by room (replicate n no_pair) = ap (sum_by room) is in
      omega (arith, no, sum, sum_by-replicate room n no_pair, len));
}

pub spread_first : (back : Rows) (sources : List VertexBearer) (old pairs : List Pair) (none found : List VertexBearer)
    → length old ≡ length back → old ≡ replicate (length back) no_pair
    → AddsAll (Contains sources) old none pairs found → AreFound pairs found → IsSpread back sources pairs found 0
spread_first back sources old pairs none found len is adds are = record {
  len = adds.len ∙ len;
  are = are;
  sound = λ v g has. elim (adds.only v g has) [
    | inl before ↦ absurd (none_has old (length back) v g is before)
    | inr given ↦ (v, given, itself)
  ];
  starts = adds.serves;
  closed = λ k s small. absurd (omega (arith, small));
  up_to = omega arith;
}

pub spread_next : (back : Rows) (sources : List VertexBearer) (pairs new : List Pair) (found more : List VertexBearer)
    (next : ℕ) (s : VertexBearer) → slice_get found next ≡ Some s → IsSpread back sources pairs found next
    → AddsAll (IsIn (successors_of back s.vertex) s.bearer) pairs found new more → AreFound new more
    → IsSpread back sources new more (next + 1)
spread_next back sources pairs new found more next s at spread adds are = record {
  len = adds.len ∙ spread.len;
  are = are;
  sound = λ v g has. elim (adds.only v g has) [
    | inl before ↦ spread.sound v g before
    | inr (edge, bearer) ↦
        (let (u, among, path) =
        spread.sound s.vertex s.bearer (spread.are.held s (contains_at found next s at)) in
        (u, rw bearer among, along path edge))
  ];
  starts = λ x among. serves_kept (Has pairs x.vertex) (Has new x.vertex) x.bearer (adds.keeps x.vertex)
      (spread.starts x among);
  closed = λ k x small there v edge. elim (below_or k next small) [
    | inl less ↦
        (let before = slice_get-get_or found k s (let low = slice_get_within found next s at in
        omega (arith, low, less)) in
        let same : get_or found k s ≡ x = same_some (get_or found k s) x
        (sym (adds.stays k (get_or found k s) before) ∙ there) in
        serves_kept (Has pairs v) (Has new v) x.bearer (adds.keeps v)
        (spread.closed k x less (before ∙ ap Some same) v edge))
    | inr last ↦
        (let same : s ≡ x = same_some s x
        (sym (adds.stays next s at) ∙ ap (λ (n : ℕ). slice_get more n) (sym last) ∙ there) in
        subst (λ (y : VertexBearer). Contains (successors_of back y.vertex) v → Serves (Has new v) y.bearer) same
        (λ leads. adds.serves (record { vertex = v; bearer = s.bearer }) (leads, refl)) edge)
  ];
  up_to = (let low = slice_get_within more next s (adds.stays next s at) in omega (arith, low));
}

pub spread_done : (back : Rows) (sources : List VertexBearer) (pairs : List Pair) (found : List VertexBearer) (next : ℕ)
    → length found ≤ next → IsSpread back sources pairs found next → AreNearest back sources pairs
spread_done back sources pairs found next done spread = record {
  len = spread.len;
  sound = spread.sound;
  complete = λ v g (u, among, path). serves g u among v path;
}
  where
    serves : (g : Bearer) (u : ℕ) → Contains sources (record { vertex = u; bearer = g }) → (v : ℕ) → Reaches back u v
        → Serves (Has pairs v) g
    serves g u among v itself = spread.starts (record { vertex = u; bearer = g }) among
    serves g u among v (along {a = a} path edge) = λ class other.
        let (h, has, differs) = serves g u among a path class other in
        let (k, at) = place_in found (record { vertex = a; bearer = h }) (spread.are.noted a h has) in
        let low = slice_get_within found k (let s : VertexBearer = record { vertex = a; bearer = h } in s) at in
        spread.closed k (record { vertex = a; bearer = h }) (omega (arith, low, done)) at v edge class differs
