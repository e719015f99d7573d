-- What can be decided, and what follows along the edges of a finite graph.
use Rattle.std.proofs.Common.{◌≡◌, ◌⊎◌, ◌↔◌, inl, inr, ℕ, zero, suc, ◌<◌, List, [], ◌∷◌, refl, sym, subst}
use Rattle.std.proofs.Common.{◌≤◌, Bool, true, false, length, slice_get, slice_index_or, Option, Some, None, arith}
use Rattle.std.proofs.lemmas.Bool.{cases_lt}
use Rattle.std.specs.List.{Contains}
pub use Rattle.use_graph.proofs.ListLemmas.{one_of, same_lists, same_by_places}

-- ---- what can be decided

abbrev pub Decided : Type 0 → Type 0
Decided Q = Q ⊎ (Q → ⊥)

pub decided_as : {Q R : Type 0} → (Q → R) → (R → Q) → Decided Q → Decided R
decided_as there back (inl q) = inl (there q)
decided_as there back (inr not) = inr (λ r. not (back r))

pub decided_both : {Q R : Type 0} → Decided Q → Decided R → Decided (Q × R)
decided_both (inl q) (inl r) = inl (q, r)
decided_both (inl q) (inr never) = inr (λ both. never both.1)
decided_both (inr never) r = inr (λ both. never both.0)

pub decided_either : {Q R : Type 0} → Decided Q → Decided R → Decided (Q ⊎ R)
decided_either (inl q) r = inl (inl q)
decided_either (inr never) (inl r) = inl (inr r)
decided_either (inr never) (inr nor) = inr (λ either. elim either [ inl q ↦ never q | inr r ↦ nor r ])

pub decided_not : {Q : Type 0} → Decided Q → Decided (Q → ⊥)
decided_not (inl q) = inr (λ never. never q)
decided_not (inr never) = inl never

pub decided_same : (a b : ℕ) → Decided (a ≡ b)
decided_same a b = grind arith

pub decided_less : (a b : ℕ) → Decided (a < b)
decided_less a b = grind arith

pub decided_same_some : (o : Option ℕ) (b : ℕ) → Decided (o ≡ Some b)
decided_same_some None b = inr (λ same. cc)
decided_same_some (Some a) b =
    decided_as (λ (same : a ≡ b). cc) (λ (same : Some a ≡ Some b). cc) (decided_same a b)

-- whether one of the numbers below a limit has a property
pub decided_below : (n : ℕ) (Q : ℕ → Type 0) → ((k : ℕ) → k < n → Decided (Q k))
    → Decided ((k : ℕ) × (k < n) × Q k)
decided_below zero Q each = inr (λ (k, low, q). omega arith)
decided_below (suc n) Q each = elim (each n (omega arith)) [
  | inl q ↦ inl (n, omega arith, q)
  | inr never ↦ elim (decided_below n Q (λ k low. each k (omega arith))) [
    | inl (k, low, q) ↦ inl (k, omega arith, q)
    | inr nor ↦ inr (λ (k, low, q). elim (last k low) [
      | inl less ↦ nor (k, less, q)
      | inr same ↦ never (subst Q same q)
    ])
  ]
]
  where
    last : (k : ℕ) → k < suc n → (k < n) ⊎ (k ≡ n)
    last k low = grind arith

-- ---- lists

module _ {V : Type 0} where
  pub in_first : (x : V) (xs : List V) → Contains (x ∷ xs) x
  in_first x xs = (0, omega arith, refl)

  pub in_rest : (x y : V) (ys : List V) → Contains ys x → Contains (y ∷ ys) x
  in_rest x y ys (k, low, is) = (suc k, omega arith, is)

  pub first_or_rest : (x y : V) (ys : List V) → Contains (y ∷ ys) x → (x ≡ y) ⊎ Contains ys x
  first_or_rest x y ys (zero, low, is) = inl (sym is)
  first_or_rest x y ys (suc k, low, is) = inr (k, omega arith, is)

  pub in_none : (x : V) → Contains [] x → ⊥
  in_none x (k, low, is) = omega arith

  -- whether one of a list has a property
  pub decided_among : (xs : List V) (Q : V → Type 0) → ((x : V) → Decided (Q x))
      → Decided ((x : V) × Contains xs x × Q x)
  decided_among [] Q each = inr (λ (x, at, q). in_none x at)
  decided_among (x ∷ xs) Q each = elim (each x) [
    | inl q ↦ inl (x, in_first x xs, q)
    | inr never ↦ elim (decided_among xs Q each) [
      | inl (y, at, q) ↦ inl (y, in_rest y x xs at, q)
      | inr nor ↦ inr (λ (y, at, q). elim (first_or_rest y x xs at) [
        | inl same ↦ never (subst Q same q)
        | inr later ↦ nor (y, later, q)
      ])
    ]
  ]

pub decided_in : (xs : List ℕ) (x : ℕ) → Decided (Contains xs x)
decided_in xs x =
    decided_as (λ (y, at, same). subst (Contains xs) same at) (λ at. (x, at, refl))
    (decided_among xs (λ y. y ≡ x) (λ y. decided_same y x))

-- the numbers below a limit that have a property
pub listed : (n : ℕ) (Q : ℕ → Type 0) → ((k : ℕ) → Decided (Q k))
    → (xs : List ℕ) × ((k : ℕ) → Contains xs k ↔ ((k < n) × Q k))
listed zero Q each = ([], λ k. (λ at. absurd (in_none k at), λ (low, q). absurd (omega arith)))
listed (suc n) Q each = by (each n) (listed n Q each)
  where
    last : (k : ℕ) → k < suc n → (k < n) ⊎ (k ≡ n)
    last k low = grind arith

    by : Decided (Q n) → (xs : List ℕ) × ((k : ℕ) → Contains xs k ↔ ((k < n) × Q k))
        → (xs : List ℕ) × ((k : ℕ) → Contains xs k ↔ ((k < suc n) × Q k))
    by (inl q) (xs, is) = (
      n ∷ xs,
      λ k. (
        λ at. elim (first_or_rest k n xs at) [
          | inl same ↦ (omega arith, subst Q (sym same) q)
          | inr later ↦ (let (low, holds) = (is k).0 later in (omega arith, holds))
        ],
        λ (low, holds). elim (last k low) [
          | inl less ↦ in_rest k n xs ((is k).1 (less, holds))
          | inr same ↦ subst (Contains (n ∷ xs)) (sym same) (in_first n xs)
        ],
      ),
    )
    by (inr never) (xs, is) = (
      xs,
      λ k. (
        λ at. (let (low, holds) = (is k).0 at in (omega arith, holds)),
        λ (low, holds). elim (last k low) [
          | inl less ↦ (is k).1 (less, holds)
          | inr same ↦ absurd (never (subst Q same holds))
        ],
      ),
    )

-- ---- along edges

module _ {V : Type 0} (Edge : V → V → Type 0) where
  -- along one edge or more, where all between are of this list
  abbrev pub Through : List V → V → V → Type 0
  Through [] a b = Edge a b
  Through (v ∷ vs) a b = Through vs a b ⊎ (Through vs a v × Through vs v b)

  pub decided_through : ((a b : V) → Decided (Edge a b)) → (vs : List V) (a b : V) → Decided (Through vs a b)
  decided_through edge [] a b = edge a b
  decided_through edge (v ∷ vs) a b =
      decided_either (decided_through edge vs a b)
      (decided_both (decided_through edge vs a v) (decided_through edge vs v b))

  pub through_edge : (vs : List V) {a b : V} → Edge a b → Through vs a b
  through_edge [] edge = edge
  through_edge (v ∷ vs) edge = inl (through_edge vs edge)

  to_first : (v : V) (vs : List V) (a : V) → Through (v ∷ vs) a v → Through vs a v
  to_first v vs a (inl way) = way
  to_first v vs a (inr ways) = ways.0

  from_first : (v : V) (vs : List V) (b : V) → Through (v ∷ vs) v b → Through vs v b
  from_first v vs b (inl way) = way
  from_first v vs b (inr ways) = ways.1

  -- two such ways that meet in one of the list are one
  pub through_joined : (vs : List V) (a m b : V) → Contains vs m → Through vs a m → Through vs m b → Through vs a b
  through_joined [] a m b at first second = absurd (in_none m at)
  through_joined (v ∷ vs) a m b at first second = elim (first_or_rest m v vs at) [
    | inl same ↦ inr (
      to_first v vs a (subst (λ (x : V). Through (v ∷ vs) a x) same first),
      from_first v vs b (subst (λ (x : V). Through (v ∷ vs) x b) same second),
    )
    | inr later ↦ elim first [
      | inl up ↦ elim second [
        | inl on ↦ inl (through_joined vs a m b later up on)
        | inr ons ↦ inr (through_joined vs a m v later up ons.0, ons.1)
      ]
      | inr ups ↦ elim second [
        | inl on ↦ inr (ups.0, through_joined vs v m b later ups.1 on)
        | inr ons ↦ inr (ups.0, ons.1)
      ]
    ]
  ]

  -- what goes along edges goes along such ways
  pub along : (Q : V → Type 0) → ((a b : V) → Edge a b → Q a → Q b) → (vs : List V) (a b : V) → Through vs a b → Q a
      → Q b
  along Q each [] a b edge q = each a b edge q
  along Q each (v ∷ vs) a b (inl way) q = along Q each vs a b way q
  along Q each (v ∷ vs) a b (inr ways) q = along Q each vs v b ways.1 (along Q each vs a v ways.0 q)

-- ---- the first number that has a property

abbrev pub IsLeast : (ℕ → Type 0) → ℕ → Type 0
IsLeast Q k = Q k × ((j : ℕ) → Q j → k ≤ j)

pub least_below : (n : ℕ) (Q : ℕ → Type 0) → ((k : ℕ) → Decided (Q k))
    → ((k : ℕ) × IsLeast Q k) ⊎ ((k : ℕ) → k < n → Q k → ⊥)
least_below zero Q each = inr (λ k low q. omega arith)
least_below (suc n) Q each = elim (least_below n Q each) [
  | inl found ↦ inl found
  | inr none ↦ elim (each n) [
    | inl q ↦ inl (
      n,
      (
        q,
        λ j r. elim (cases_lt j n) [
          | inl low ↦ absurd (none j low r)
          | inr high ↦ high
        ],
      ),
    )
    | inr never ↦ inr (λ k low q. elim (cases_lt k n) [
      | inl less ↦ none k less q
      | inr high ↦ (let same : k ≡ n = omega arith in never (subst Q same q))
    ])
  ]
]

-- ---- tables

pub table : {A : Type 0} → ℕ → (ℕ → A) → List A
table zero f = []
table (suc n) f = f 0 ∷ table n (λ i. f (suc i))

pub length_table : {A : Type 0} (n : ℕ) (f : ℕ → A) → length (table n f) ≡ n
unfolding table
length_table zero f = refl
length_table (suc n) f = (let rest = length_table n (λ i. f (suc i)) in omega arith)

pub at_table : {A : Type 0} (n : ℕ) (f : ℕ → A) (c : ℕ) → c < n → slice_get (table n f) c ≡ Some (f c)
unfolding table
at_table zero f c low = absurd (omega arith)
at_table (suc n) f zero low = refl
at_table (suc n) f (suc c) low = at_table n (λ i. f (suc i)) c (omega arith)

pub or_table : {A : Type 0} (n : ℕ) (f : ℕ → A) (c : ℕ) (d : A) → c < n → slice_index_or (table n f) c d ≡ f c
unfolding table
or_table zero f c d low = absurd (omega arith)
or_table (suc n) f zero d low = refl
or_table (suc n) f (suc c) d low = or_table n (λ i. f (suc i)) c d (omega arith)

pub past_table : {A : Type 0} (n : ℕ) (f : ℕ → A) (c : ℕ) (d : A) → n ≤ c → slice_index_or (table n f) c d ≡ d
unfolding table
past_table zero f c d high = refl
past_table (suc n) f zero d high = absurd (omega arith)
past_table (suc n) f (suc c) d high = past_table n (λ i. f (suc i)) c d (omega arith)

-- ---- truth values

pub decided_true : (b : Bool) → Decided (b ≡ true)
decided_true true = inl refl
decided_true false = inr (λ is. cc)
