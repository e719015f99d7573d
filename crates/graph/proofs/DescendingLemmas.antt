-- The steps of a descent in depth.
use Rattle.std.proofs.Common.{◌≡◌, ℕ, ◌+◌, ◌-◌, ◌<◌, ◌≤◌, List, [], ◌∷◌, ◌++◌, length, take, set, slice_index, ◌⊎◌, inl}
use Rattle.std.proofs.Common.{inr, refl, sym, subst, arith}
use Rattle.std.proofs.lemmas.Bool.{cases_eq, cases_lt}
use Rattle.std.specs.List.{Contains}
use Rattle.std.proofs.lemmas.Grind.{common_steps}
use Rattle.std.proofs.lemmas.List.{length_push, take_all}
use Rattle.std.proofs.lemmas.List.Elements.{All-push, All-contains, All-contains_itself, All-weaker, Contains-get_or}
use Rattle.std.proofs.lemmas.List.Elements.{Contains-append_left, Contains-push, Contains-push_cases}
use Rattle.graph.specs.Rows.{Rows, successors_of}
use Rattle.graph.specs.Reaches.{Reaches, itself, along}
use Rattle.graph.specs.Seen.{AreDistinct, count_of}
use Rattle.graph.specs.Order.{IsPostorder}
use Rattle.graph.specs.steps.Finishing.{IsFinishedOrLater, FinishesReached, IsFinishingOrder}
use Rattle.graph.specs.steps.Descending.{Descending}
use Rattle.graph.proofs.SeenLemmas.{count_of-push_same, count_of-push_other, count_of-contains, count_of-absent}
use Rattle.graph.proofs.SeenLemmas.{Contains-counted}
use Rattle.graph.proofs.OrderLemmas.{place_of_member}

push_before : (xs : List ℕ) (b k : ℕ) → k < length xs → slice_index (xs ++ b ∷ []) k ≡ slice_index xs k
push_before xs b k h = grind (arith, common_steps)

push_at : (xs : List ℕ) (b k : ℕ) → k ≡ length xs → slice_index (xs ++ b ∷ []) k ≡ b
push_at xs b k h = grind (arith, common_steps)

take_push : (xs : List ℕ) (b k : ℕ) → k ≤ length xs → take k (xs ++ b ∷ []) ≡ take k xs
take_push xs b k h = grind (arith, common_steps)

last_of : (n k : ℕ) → k < n + 1 → n ≤ k → k ≡ n
last_of n k h j = omega arith

-- ---- what was seen

pub on_path_is_seen : (graph : Rows) (seen path passed finished : List ℕ) (x : ℕ)
    → Descending graph seen path passed finished → Contains path x → Contains seen x
on_path_is_seen graph seen path passed finished x w h =
    Contains-counted seen x (omega (arith, w.counted x, count_of-contains path x h))

pub finished_is_seen : (graph : Rows) (seen path passed finished : List ℕ) (x : ℕ)
    → Descending graph seen path passed finished → Contains finished x → Contains seen x
finished_is_seen graph seen path passed finished x w h =
    Contains-counted seen x (omega (arith, w.counted x, count_of-contains finished x h))

seen_is_known : (graph : Rows) (seen path passed finished : List ℕ) (x : ℕ) → Descending graph seen path passed finished
    → Contains seen x → Contains finished x ⊎ Contains path x
seen_is_known graph seen path passed finished x w h =
    elim (some (count_of finished x) (count_of path x) (omega (arith, w.counted x, count_of-contains seen x h))) [
      | inl f ↦ inl (Contains-counted finished x f)
      | inr p ↦ inr (Contains-counted path x p)
    ]
  where
    some : (a b : ℕ) → 0 < a + b → (0 < a) ⊎ (0 < b)
    some a b h = grind arith

pub last_is_vertex : (graph : Rows) (seen path passed finished : List ℕ) (v : ℕ)
    → Descending graph seen path passed finished → 0 < length path
    → v ≡ slice_index path (length path - 1) → v < length graph
last_is_vertex graph seen path passed finished v w some last =
    All-contains (λ u. u < length graph) seen v w.within
    (on_path_is_seen graph seen path passed finished v w
    (subst (λ (u : ℕ). Contains path u) (sym last) (Contains-get_or path (length path - 1) 0 (omega arith))))

-- ---- what is counted, as a vertex goes onto the path and from there to what is finished

counted_push : (seen path finished : List ℕ) (b : ℕ)
    → ((x : ℕ) → count_of finished x + count_of path x ≡ count_of seen x)
    → (x : ℕ) → count_of finished x + count_of (path ++ b ∷ []) x ≡ count_of (seen ++ b ∷ []) x
counted_push seen path finished b counted x = elim (cases_eq b x) [
  | inl e ↦ subst (λ (y : ℕ). count_of finished y + count_of (path ++ b ∷ []) y ≡ count_of (seen ++ b ∷ []) y) e
      (omega (arith, counted b, count_of-push_same path b, count_of-push_same seen b))
  | inr n ↦ omega (arith, counted x, count_of-push_other path b x n, count_of-push_other seen b x n)
]

counted_pop : (seen path finished : List ℕ) (b : ℕ)
    → ((x : ℕ) → count_of finished x + count_of (path ++ b ∷ []) x ≡ count_of seen x)
    → (x : ℕ) → count_of (finished ++ b ∷ []) x + count_of path x ≡ count_of seen x
counted_pop seen path finished b counted x = elim (cases_eq b x) [
  | inl e ↦ subst (λ (y : ℕ). count_of (finished ++ b ∷ []) y + count_of path y ≡ count_of seen y) e
      (omega (arith, counted b, count_of-push_same path b, count_of-push_same finished b))
  | inr n ↦ omega (arith, counted x, count_of-push_other path b x n, count_of-push_other finished b x n)
]

pub distinct_push : (seen : List ℕ) (b : ℕ) → (Contains seen b → ⊥) → AreDistinct seen → AreDistinct (seen ++ b ∷ [])
distinct_push seen b absent distinct x = elim (cases_eq b x) [
  | inl e ↦ subst (λ (y : ℕ). count_of (seen ++ b ∷ []) y ≤ 1) e
      (omega (arith, count_of-push_same seen b, count_of-absent seen b absent))
  | inr n ↦ omega (arith, distinct x, count_of-push_other seen b x n)
]

-- ---- the steps

-- more successors of a vertex have been seen
pub descent_look : (graph : Rows) (seen path passed finished : List ℕ) (v next : ℕ) → v < length passed
    → next ≤ length (successors_of graph v)
    → ((j : ℕ) → j < next → Contains seen (slice_index (successors_of graph v) j))
    → Descending graph seen path passed finished
    → Descending graph seen path (set passed v next) finished
descent_look graph seen path passed finished v next small bound looked w = record {
  counted = w.counted;
  distinct = w.distinct;
  within = w.within;
  chain = w.chain;
  short = λ u. elim (cases_eq u v) [
    | inl e ↦ rw (here u e) (rw e bound)
    | inr n ↦ rw (else u n) (w.short u)
  ];
  looked = λ u j h. elim (cases_eq u v) [
    | inl e ↦ rw e (looked j (rw (here u e) at h))
    | inr n ↦ w.looked u j (rw (else u n) at h)
  ];
  after = w.after;
  explored = w.explored;
  reached = w.reached;
}
  where
    here : (u : ℕ) → u ≡ v → slice_index (set passed v next) u ≡ next
    here u e = grind (arith, common_steps)

    else : (u : ℕ) → (u ≡ v → ⊥) → slice_index (set passed v next) u ≡ slice_index passed u
    else u n = grind (arith, common_steps)

-- a vertex that was not seen goes onto the path
descent_down : (graph : Rows) (seen path passed finished : List ℕ) (b : ℕ) → (Contains seen b → ⊥) → b < length graph
    → ((i : ℕ) → i < length path → Reaches graph (slice_index path i) b)
    → Descending graph seen path passed finished → Descending graph (seen ++ b ∷ []) (path ++ b ∷ []) passed finished
descent_down graph seen path passed finished b absent small leads w = record {
  counted = counted_push seen path finished b w.counted;
  distinct = distinct_push seen b absent w.distinct;
  within = All-push (λ u. u < length graph) seen b w.within small;
  chain = λ i j le h. elim (cases_lt j (length path)) [
    | inl less ↦ rw (push_before path b i (omega arith), push_before path b j less) (w.chain i j le less)
    | inr more ↦ (let j_is : j ≡ length path = last_of (length path) j (rw length_push at h) more in
        rw (push_at path b j j_is) (elim (cases_lt i (length path)) [
          | inl less ↦ rw (push_before path b i less) (leads i less)
          | inr top ↦ rw (push_at path b i (omega arith)) itself
        ]))
  ];
  short = w.short;
  looked = λ u j h. Contains-append_left seen (b ∷ []) _ (w.looked u j h);
  after = w.after;
  explored = λ u d f e. Contains-append_left seen (b ∷ []) d (w.explored u d f e);
  reached = w.reached;
}

-- the path goes on along an edge
pub descent_push : (graph : Rows) (seen seen' path path' passed finished : List ℕ) (v b : ℕ) → 0 < length path
    → v ≡ slice_index path (length path - 1)
    → Contains (successors_of graph v) b → b < length graph → (Contains seen b → ⊥) → seen' ≡ seen ++ b ∷ []
    → path' ≡ path ++ b ∷ []
    → Descending graph seen path passed finished → Descending graph seen' path' passed finished
descent_push graph seen seen' path path' passed finished v b some last edge small absent es ep w =
    rw (es, ep) (descent_down graph seen path passed finished b absent small
    (λ i less. along (subst (λ (y : ℕ). Reaches graph (slice_index path i) y) (sym last)
    (w.chain i (length path - 1) (omega arith) (omega arith))) edge) w)

-- the path begins
pub descent_root : (graph : Rows) (seen seen' path' passed finished : List ℕ) (b : ℕ) → b < length graph
    → (Contains seen b → ⊥) → seen' ≡ seen ++ b ∷ []
    → path' ≡ b ∷ [] → Descending graph seen [] passed finished → Descending graph seen' path' passed finished
descent_root graph seen seen' path' passed finished b small absent es ep w =
    rw (es, ep) (descent_down graph seen [] passed finished b absent small (λ i h. absurd (omega arith)) w)

-- what a vertex reaches, as it goes from the path to what is finished
reached_at_pop : (graph : Rows) (seen path finished : List ℕ) (v : ℕ) → AreDistinct seen
    → ((x : ℕ) → count_of (finished ++ v ∷ []) x + count_of path x ≡ count_of seen x)
    → ((u b : ℕ) → Contains (finished ++ v ∷ []) u → Contains (successors_of graph u) b → Contains seen b)
    → ((b : ℕ) → Contains path b → Reaches graph b v)
    → (u : ℕ) → Reaches graph v u → IsFinishedOrLater graph (finished ++ v ∷ []) v u
reached_at_pop graph seen path finished v distinct counted explored up u itself = inl (Contains-push finished v)
reached_at_pop graph seen path finished v distinct counted explored up u (along {a = a} p e) =
    elim (reached_at_pop graph seen path finished v distinct counted explored up a p) [
      | inl f ↦ either (known (explored a u f e))
      | inr (q, absent, both, further) ↦ inr (q, absent, both, along further e)
    ]
  where
    some : (a b : ℕ) → 0 < a + b → (0 < a) ⊎ (0 < b)
    some a b h = grind arith

    known : Contains seen u → Contains (finished ++ v ∷ []) u ⊎ Contains path u
    known s = elim (some (count_of (finished ++ v ∷ []) u) (count_of path u)
        (omega (arith, counted u, count_of-contains seen u s))) [
          | inl f ↦ inl (Contains-counted (finished ++ v ∷ []) u f)
          | inr p ↦ inr (Contains-counted path u p)
        ]

    either : Contains (finished ++ v ∷ []) u ⊎ Contains path u → IsFinishedOrLater graph (finished ++ v ∷ []) v u
    either (inl f) = inl f
    either (inr on) = inr (u, absent, (up u on, along p e), itself)
      where
        absent : Contains (finished ++ v ∷ []) u → ⊥
        absent f = omega (
          arith,
          counted u,
          distinct u,
          count_of-contains (finished ++ v ∷ []) u f,
          count_of-contains path u on,
        )

reached_push : (graph : Rows) (finished : List ℕ) (v : ℕ) → FinishesReached graph finished
    → ((u : ℕ) → Reaches graph v u → IsFinishedOrLater graph (finished ++ v ∷ []) v u)
    → FinishesReached graph (finished ++ v ∷ [])
reached_push graph finished v before top i u h r = elim (cases_lt i (length finished)) [
  | inl less ↦ rw (push_before finished v i less, take_push finished v (i + 1) (omega arith))
      (before i u less (rw (push_before finished v i less) at r))
  | inr more ↦ (let i_is : i ≡ length finished = last_of (length finished) i (rw length_push at h) more in
      rw (push_at finished v i i_is, take_all (i + 1) (finished ++ v ∷ []) (rw length_push (omega arith)))
      (top u (rw (push_at finished v i i_is) at r)))
]

-- the last vertex of the path is finished
pub descent_pop : (graph : Rows) (seen path path' passed finished finished' : List ℕ) (v : ℕ) → path ≡ path' ++ v ∷ []
    → finished' ≡ finished ++ v ∷ []
    → ((j : ℕ) → j < length (successors_of graph v) → Contains seen (slice_index (successors_of graph v) j))
    → Descending graph seen path passed finished → Descending graph seen path' passed finished'
descent_pop graph seen path path' passed finished finished' v ep ef all w = rw ef (go (rw ep at w))
  where
    go : Descending graph seen (path' ++ v ∷ []) passed finished → Descending graph seen path' passed (finished ++ v ∷
        [])
    go w = record {
      counted = counted_pop seen path' finished v w.counted;
      distinct = w.distinct;
      within = w.within;
      chain = λ i j le h. rw ((sym (push_before path' v i (omega arith))), (sym (push_before path' v j h)))
          (w.chain i j le (rw length_push (omega arith)));
      short = w.short;
      looked = w.looked;
      after = λ i b h e. elim (cases_lt i (length finished)) [
        | inl less ↦ rw (push_before finished v i less, take_push finished v i (omega arith))
            (w.after i b less (rw (push_before finished v i less) at e))
        | inr more ↦ (let i_is : i ≡ length finished = last_of (length finished) i (rw length_push at h) more in
            last i b i_is (rw (push_at finished v i i_is) at e))
      ];
      explored = explored;
      reached = reached_push graph finished v w.reached
          (reached_at_pop graph seen path' finished v w.distinct (counted_pop seen path' finished v w.counted) explored
          (λ b p. reaches_top b (Contains-append_left path' (v ∷ []) b p)));
    }
      where
        explored : (u b : ℕ) → Contains (finished ++ v ∷ []) u → Contains (successors_of graph u) b → Contains seen b
        explored u b f e = elim (Contains-push_cases finished v u f) [
          | inl o ↦ w.explored u b o e
          | inr is ↦ (let at = place_of_member (successors_of graph u) b e in
              subst (λ (y : ℕ). Contains seen y) (rw is at.2) (all at.0 (rw is at.1)))
        ]

        reaches_top : (b : ℕ) → Contains (path' ++ v ∷ []) b → Reaches graph b v
        reaches_top b p = (let at = place_of_member (path' ++ v ∷ []) b p in
            subst (λ (y : ℕ). Reaches graph y v) at.2
            (subst (λ (y : ℕ). Reaches graph (slice_index (path' ++ v ∷ []) at.0) y)
            (push_at path' v (length path') refl)
            (w.chain at.0 (length path') (le at.0 at.1) (rw length_push (omega arith)))))
          where
            le : (k : ℕ) → k < length (path' ++ v ∷ []) → k ≤ length path'
            le k h = (let j = rw length_push at h in omega arith)

        last : (i b : ℕ) → i ≡ length finished → Contains (successors_of graph v) b
            → Contains (take i (finished ++ v ∷ [])) b ⊎ Reaches graph b (slice_index (finished ++ v ∷ []) i)
        last i b i_is e =
            (let at = place_of_member (successors_of graph v) b e in
            let s : Contains seen b = subst (λ (y : ℕ). Contains seen y) at.2 (all at.0 at.1) in
            elim (seen_is_known graph seen (path' ++ v ∷ []) passed finished b w s) [
              | inl o ↦ inl (whole o)
              | inr p ↦ inr (rw (push_at finished v i i_is) (reaches_top b p))
            ])
          where
            whole : Contains finished b → Contains (take i (finished ++ v ∷ [])) b
            whole o = (let t : take i (finished ++ v ∷ []) ≡ finished = grind (arith, common_steps) in rw t o)

descent_orders : (graph : Rows) (seen passed finished : List ℕ) → ((v : ℕ) → v < length graph → Contains seen v)
    → Descending graph seen [] passed finished → IsPostorder graph finished
descent_orders graph seen passed finished all w = record {
  each = record {
    within = All-weaker (Contains finished) (λ v. v < length graph)
        (λ v h. All-contains (λ u. u < length graph) seen v w.within
        (finished_is_seen graph seen [] passed finished v w h)) finished (All-contains_itself finished);
    once = λ v small. omega (arith, w.counted v, w.distinct v, count_of-contains seen v (all v small));
  };
  after = w.after;
}

-- everything has been seen, and the path is empty
pub descent_done : (graph : Rows) (seen passed finished : List ℕ) → ((v : ℕ) → v < length graph → Contains seen v)
    → Descending graph seen [] passed finished → IsFinishingOrder graph finished
descent_done graph seen passed finished all w =
    record { postorder = descent_orders graph seen passed finished all w; reached = w.reached }

-- ---- plain facts

pub one_more : (P : ℕ → Type 0) (n : ℕ) → ((j : ℕ) → j < n → P j) → P n → (j : ℕ) → j < n + 1 → P j
one_more P n below here j h = elim (cases_lt j n) [ inl less ↦ below j less | inr more ↦ subst P (is n j h more) here ]
  where
    is : (n j : ℕ) → j < n + 1 → n ≤ j → n ≡ j
    is n j h more = omega arith
