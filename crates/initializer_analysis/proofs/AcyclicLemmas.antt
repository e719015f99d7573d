-- How high each vertex stands of a finite graph, where no vertex that is reached from it is on a cycle.
use Rattle.std.proofs.Common.{◌≡◌, ◌⊎◌, inl, inr, ℕ, zero, suc, ◌+◌, ◌<◌, ◌≤◌, List, [], ◌∷◌, refl, sym, ap}
use Rattle.std.proofs.Common.{subst, arith, max}
use Rattle.std.specs.List.{Contains}
use Rattle.initializer_analysis.proofs.ReachesLemmas.{Decided, Through, decided_through, through_edge}
use Rattle.initializer_analysis.proofs.ReachesLemmas.{through_joined, in_first, in_rest, in_none, first_or_rest, listed}

-- ---- the tops of numbers

-- one more than the greatest height of some vertices, 0 of none
abbrev top : (ℕ → ℕ) → List ℕ → ℕ
top height [] = 0
top height (c ∷ cs) = max (suc (height c)) (top height cs)

top_each : (height : ℕ → ℕ) (cs : List ℕ) (d : ℕ) → Contains cs d → height d < top height cs
top_each height [] d at = absurd (in_none d at)
top_each height (c ∷ cs) d at = elim (first_or_rest d c cs at) [
  | inl same ↦ omega (arith, ap height same)
  | inr later ↦ omega (arith, top_each height cs d later)
]

top_attained : (height : ℕ → ℕ) (cs : List ℕ)
    → (top height cs ≡ 0) ⊎ ((d : ℕ) × Contains cs d × (top height cs ≡ height d + 1))
top_attained height [] = inl refl
top_attained height (c ∷ cs) = inr (by (top_attained height cs))
  where
    larger : (a b : ℕ) → ((b ≤ a) × (max a b ≡ a)) ⊎ ((a ≤ b) × (max a b ≡ b))
    larger a b = grind arith

    by : (top height cs ≡ 0) ⊎ ((d : ℕ) × Contains cs d × (top height cs ≡ height d + 1))
        → (d : ℕ) × Contains (c ∷ cs) d × (top height (c ∷ cs) ≡ height d + 1)
    by (inl none) = (c, in_first c cs, omega (arith, none))
    by (inr (d, at, is)) = elim (larger (suc (height c)) (top height cs)) [
      | inl (less, same) ↦ (c, in_first c cs, omega (arith, same))
      | inr (less, same) ↦ (d, in_rest d c cs at, omega (arith, same, is))
    ]

top_same : (height other : ℕ → ℕ) (cs : List ℕ) → ((d : ℕ) → Contains cs d → height d ≡ other d)
    → top height cs ≡ top other cs
top_same height other [] same = refl
top_same height other (c ∷ cs) same =
    omega (arith, same c (in_first c cs), top_same height other cs (λ d at. same d (in_rest d c cs at)))

-- ---- how many numbers have a property

tell : {Q : Type 0} → Decided Q → ℕ
tell (inl q) = 1
tell (inr never) = 0

tell_more : {Q R : Type 0} (q : Decided Q) (r : Decided R) → (Q → R) → tell q ≤ tell r
unfolding tell
tell_more (inl q) (inl r) more = omega arith
tell_more (inl q) (inr never) more = absurd (never (more q))
tell_more (inr never) r more = omega arith

tell_new : {Q R : Type 0} (q : Decided Q) (r : Decided R) → (Q → ⊥) → R → tell q < tell r
unfolding tell
tell_new (inl q) r never is = absurd (never q)
tell_new (inr never) (inl r) not is = omega arith
tell_new (inr never) (inr nor) not is = absurd (nor is)

count : (n : ℕ) {Q : ℕ → Type 0} → ((k : ℕ) → Decided (Q k)) → ℕ
count zero each = 0
count (suc n) each = tell (each n) + count n each

count_more : (n : ℕ) {Q R : ℕ → Type 0} (q : (k : ℕ) → Decided (Q k)) (r : (k : ℕ) → Decided (R k))
    → ((k : ℕ) → Q k → R k) → count n q ≤ count n r
unfolding count
count_more zero q r more = omega arith
count_more (suc n) q r more = omega (arith, tell_more (q n) (r n) (more n), count_more n q r more)

count_new : (n : ℕ) {Q R : ℕ → Type 0} (q : (k : ℕ) → Decided (Q k)) (r : (k : ℕ) → Decided (R k))
    → ((k : ℕ) → Q k → R k) → (x : ℕ) → x < n → (Q x → ⊥) → R x → count n q < count n r
unfolding count
count_new zero q r more x low never is = absurd (omega arith)
count_new (suc n) {Q} {R} q r more x low never is = elim (last x low) [
  | inl less ↦ omega (arith, tell_more (q n) (r n) (more n), count_new n q r more x less never is)
  | inr same ↦ omega (
    arith,
    tell_new (q n) (r n) (λ here. never (subst Q (sym same) here)) (subst R same is),
    count_more n q r more,
  )
]
  where
    last : (j : ℕ) → j < suc n → (j < n) ⊎ (j ≡ n)
    last j less = grind arith

tell_small : {Q : Type 0} (q : Decided Q) → tell q ≤ 1
unfolding tell
tell_small (inl q) = omega arith
tell_small (inr never) = omega arith

count_small : (n : ℕ) {Q : ℕ → Type 0} (q : (k : ℕ) → Decided (Q k)) → count n q ≤ n
unfolding count
count_small zero q = omega arith
count_small (suc n) q = omega (arith, tell_small (q n), count_small n q)

-- ---- a finite graph

pub numbers : ℕ → List ℕ
numbers zero = []
numbers (suc n) = n ∷ numbers n

in_numbers : (n k : ℕ) → k < n → Contains (numbers n) k
unfolding numbers
in_numbers zero k low = absurd (omega arith)
in_numbers (suc n) k low = elim (last k low) [
  | inl less ↦ in_rest k n (numbers n) (in_numbers n k less)
  | inr same ↦ subst (Contains (n ∷ numbers n)) (sym same) (in_first n (numbers n))
]
  where
    last : (j : ℕ) → j < suc n → (j < n) ⊎ (j ≡ n)
    last j less = grind arith

module _ (limit : ℕ) (Edge : ℕ → ℕ → Type 0) (edge : (a b : ℕ) → Decided (Edge a b))
    (within : (a b : ℕ) → Edge a b → b < limit) where
  -- along one edge or more
  abbrev pub Along : ℕ → ℕ → Type 0
  Along a b = Through Edge (numbers limit) a b

  pub decided_along : (a b : ℕ) → Decided (Along a b)
  decided_along a b = decided_through Edge edge (numbers limit) a b

  through_within : (vs : List ℕ) (a b : ℕ) → Through Edge vs a b → b < limit
  through_within [] a b one = within a b one
  through_within (v ∷ vs) a b (inl way) = through_within vs a b way
  through_within (v ∷ vs) a b (inr ways) = through_within vs v b ways.1

  pub along_edge : {a b : ℕ} → Edge a b → Along a b
  along_edge one = through_edge Edge (numbers limit) one

  pub along_joined : (a m b : ℕ) → Along a m → Along m b → Along a b
  along_joined a m b first second =
      through_joined Edge (numbers limit) a m b
      (in_numbers limit m (through_within (numbers limit) a m first)) first second

  -- no vertex that is reached from this one is on a cycle
  abbrev pub IsAcyclic : ℕ → Type 0
  IsAcyclic a = (b : ℕ) → Along a b → Along b b → ⊥

  acyclic_next : (a b : ℕ) → Edge a b → IsAcyclic a → IsAcyclic b
  acyclic_next a b one free c way = free c (along_joined a b c (along_edge one) way)

  -- how many vertices are reached
  reach : ℕ → ℕ
  reach a = count limit (decided_along a)

  reach_small : (a : ℕ) → reach a ≤ limit
  unfolding reach
  reach_small a = count_small limit (decided_along a)

  reach_less : (a b : ℕ) → Edge a b → IsAcyclic a → reach b < reach a
  unfolding reach
  reach_less a b one free =
      count_new limit (decided_along b) (decided_along a) (λ k way. along_joined a b k (along_edge one) way) b
      (within a b one) (free b (along_edge one)) (along_edge one)

  nexts : ℕ → List ℕ
  nexts a = (listed limit (Edge a) (edge a)).0

  to_next : (a b : ℕ) → Edge a b → Contains (nexts a) b
  unfolding nexts
  to_next a b one = ((listed limit (Edge a) (edge a)).1 b).1 (within a b one, one)

  from_next : (a b : ℕ) → Contains (nexts a) b → Edge a b
  unfolding nexts
  from_next a b at = (((listed limit (Edge a) (edge a)).1 b).0 at).1

  -- the height, over at most so many others
  height_within : ℕ → ℕ → ℕ
  height_within zero a = 0
  height_within (suc n) a = top (height_within n) (nexts a)

  enough : (m n a : ℕ) → reach a ≤ m → reach a ≤ n → IsAcyclic a → height_within m a ≡ height_within n a
  unfolding height_within
  enough zero zero a small few free = refl
  enough zero (suc n) a small few free = elim (top_attained (height_within n) (nexts a)) [
    | inl none ↦ sym none
    | inr (b, at, is) ↦ absurd (let less = reach_less a b (from_next a b at) free in omega arith)
  ]
  enough (suc m) zero a small few free = elim (top_attained (height_within m) (nexts a)) [
    | inl none ↦ none
    | inr (b, at, is) ↦ absurd (let less = reach_less a b (from_next a b at) free in omega arith)
  ]
  enough (suc m) (suc n) a small few free = top_same (height_within m) (height_within n) (nexts a) (λ b at.
      let one = from_next a b at in
      let less = reach_less a b one free in
      enough m n b (omega arith) (omega arith) (acyclic_next a b one free))

  pub height : ℕ → ℕ
  height a = height_within (suc limit) a

  height_next : (a b : ℕ) → Edge a b → IsAcyclic a → height_within limit b ≡ height b
  unfolding height
  height_next a b one free =
      let less = reach_less a b one free in
      let most = reach_small a in
      enough limit (suc limit) b (omega arith) (omega arith) (acyclic_next a b one free)

  pub height_above : (a b : ℕ) → Edge a b → IsAcyclic a → height b < height a
  unfolding height height_within
  height_above a b one free =
      let most = top_each (height_within limit) (nexts a) b (to_next a b one) in
      let same = height_next a b one free in
      omega arith

  pub height_attained : (a : ℕ) → IsAcyclic a
      → (height a ≡ 0) ⊎ ((b : ℕ) × Edge a b × (height a ≡ height b + 1))
  unfolding height height_within
  height_attained a free = elim (top_attained (height_within limit) (nexts a)) [
    | inl none ↦ inl none
    | inr (b, at, is) ↦
        (let one = from_next a b at in
        let same = height_next a b one free in
        inr (b, one, omega arith))
  ]
