-- Whether a class is above itself is decided, and so is which is the first.
use Rattle.std.proofs.Common.{◌≡◌, ℕ, zero, suc, ◌<◌, ◌⊎◌, inl, inr, List, [], ◌∷◌, length}
use Rattle.std.proofs.Common.{refl, subst, arith}
use Rattle.std.specs.List.{Contains}
use Rattle.std.proofs.lemmas.Option.{slice_get_within}
use Rattle.loading.specs.Families.{Family, parents_in, IsAncestor, AreParentsWithin, parent, further}
use Rattle.loading.specs.steps.Linking.{IsLeastClassOnCycle}
use Rattle.loading.proofs.LinkingClassLemmas.{child_of}
use Rattle.hierarchy.proofs.AscentsOrderLemmas.{none_in_empty, in_front, in_rest, cons_cases}

-- it holds or it does not
abbrev pub Known : Type 0 → Type 0
Known P = P ⊎ (P → ⊥)

both_known : {P Q : Type 0} → Known P → Known Q → Known (P × Q)
both_known (inl p) (inl q) = inl (p, q)
both_known (inl p) (inr never) = inr (λ h. never h.1)
both_known (inr never) q = inr (λ h. never h.0)

one_known : {P Q : Type 0} → Known P → Known Q → Known (P ⊎ Q)
one_known (inl p) q = inl (inl p)
one_known (inr never) (inl q) = inl (inr q)
one_known (inr never) (inr none) = inr (λ h. elim h [ inl p ↦ never p | inr q ↦ none q ])

same_number : (a b : ℕ) → Known (a ≡ b)
same_number zero zero = inl refl
same_number zero (suc b) = inr (λ e. omega (arith, e))
same_number (suc a) zero = inr (λ e. omega (arith, e))
same_number (suc a) (suc b) = elim (same_number a b) [
  | inl e ↦ inl (omega (arith, e))
  | inr never ↦ inr (λ e. never (omega (arith, e)))
]

member_known : (xs : List ℕ) (x : ℕ) → Known (Contains xs x)
member_known [] x = inr (λ h. none_in_empty x h)
member_known (y ∷ ys) x = elim (same_number y x) [
  | inl e ↦ inl (let P : ℕ → Type 0 = λ z. Contains (y ∷ ys) z in subst P e (in_front y ys))
  | inr never ↦ elim (member_known ys x) [
    | inl more ↦ inl (in_rest y ys x more)
    | inr none ↦ inr (λ h. elim (cons_cases y ys x h) [ inl e ↦ never e | inr more ↦ none more ])
  ]
]

-- ---- by way of classes below a number

module _ (family : Family) where
  abbrev Reaches : ℕ → ℕ → ℕ → Type 0
  Reaches zero c d = Contains (parents_in family c) d
  Reaches (suc k) c d = Reaches k c d ⊎ (Reaches k c k × Reaches k k d)

  reach_known : (k c d : ℕ) → Known (Reaches k c d)
  reach_known zero c d = member_known (parents_in family c) d
  reach_known (suc k) c d =
      one_known (reach_known k c d) (both_known (reach_known k c k) (reach_known k k d))

  along : (c d e : ℕ) → IsAncestor family c d → IsAncestor family d e → IsAncestor family c e
  along c d e low (parent up) = further low up
  along c d e low (further {d = m} mid up) = further (along c d m low mid) up

  reached : (k c d : ℕ) → Reaches k c d → IsAncestor family c d
  reached zero c d h = parent h
  reached (suc k) c d (inl h) = reached k c d h
  reached (suc k) c d (inr h) = along c k d (reached k c k h.0) (reached k k d h.1)

  more : (k c d : ℕ) → Contains (parents_in family c) d → Reaches k c d
  more zero c d h = h
  more (suc k) c d h = inl (more k c d h)

  to_it : (k c : ℕ) → Reaches (suc k) c k → Reaches k c k
  to_it k c (inl h) = h
  to_it k c (inr h) = h.0

  from_it : (k d : ℕ) → Reaches (suc k) k d → Reaches k k d
  from_it k d (inl h) = h
  from_it k d (inr h) = h.1

  -- the same by way of a class below a number, where that holds below the one before it
  abbrev Joins : ℕ → Type 0
  Joins k = (c m d : ℕ) → m < k → Reaches k c m → Reaches k m d → Reaches k c d

  joined : (k c m d : ℕ) → Joins k → m < k → Reaches (suc k) c m → Reaches (suc k) m d → Reaches (suc k) c d
  joined k c m d join less (inl a) (inl b) = inl (join c m d less a b)
  joined k c m d join less (inl a) (inr b) = inr (join c m k less a b.0, b.1)
  joined k c m d join less (inr a) (inl b) = inr (a.0, join k m d less a.1 b)
  joined k c m d join less (inr a) (inr b) = inr (a.0, b.1)

  through : (k : ℕ) → Joins k
  through zero c m d lt p q = absurd (omega (arith, lt))
  through (suc k) c m d lt p q = elim (same_number m k) [
    | inl e ↦
        let P : ℕ → Type 0 = λ z. Reaches (suc k) c z in
        let Q : ℕ → Type 0 = λ z. Reaches (suc k) z d in
        inr (to_it k c (subst P e p), from_it k d (subst Q e q))
    | inr never ↦ joined k c m d (through k) (omega (arith, lt, never)) p q
  ]

  module _ (within : AreParentsWithin family) where
    reach : (c d : ℕ) → IsAncestor family c d → Reaches (length family) c d
    reach c d (parent up) = more (length family) c d up
    reach c d (further {d = m} low up) =
        let child = child_of family m d up in
        through (length family) c m d (slice_get_within family m child.0 child.1) (reach c m low)
        (more (length family) m d up)

    above_known : (c d : ℕ) → Known (IsAncestor family c d)
    above_known c d = elim (reach_known (length family) c d) [
      | inl h ↦ inl (reached (length family) c d h)
      | inr never ↦ inr (λ h. never (reach c d h))
    ]

    -- none below a number is above itself, or there is a first
    first_below : (n : ℕ) → ((c : ℕ) × (c < n × IsLeastClassOnCycle family c))
        ⊎ ((c : ℕ) → c < n → IsAncestor family c c → ⊥)
    first_below zero = inr (λ c lt h. omega (arith, lt))
    first_below (suc n) = elim (first_below n) [
      | inl some ↦ (let lt = some.1.0 in inl (some.0, (omega (arith, lt), some.1.1)))
      | inr none ↦ elim (above_known n n) [
        | inl here ↦ inl (n, (omega arith, record { on_cycle = here; least = none }))
        | inr never ↦ inr (λ c lt h. elim (same_number c n) [
          | inl e ↦ (let P : ℕ → Type 0 = λ z. IsAncestor family z z in never (subst P e h))
          | inr other ↦ none c (omega (arith, lt, other)) h
        ])
      ]
    ]

    child_within : (c d : ℕ) → IsAncestor family c d → c < length family
    child_within c d (parent up) =
        let child = child_of family c d up in slice_get_within family c child.0 child.1
    child_within c d (further {d = m} low up) = child_within c m low

    pub first_on_cycle : ((c : ℕ) × (c < length family × IsLeastClassOnCycle family c))
        ⊎ ((c : ℕ) → IsAncestor family c c → ⊥)
    first_on_cycle = elim (first_below (length family)) [
      | inl some ↦ inl some
      | inr none ↦ inr (λ c h. none c (child_within c c h) h)
    ]
