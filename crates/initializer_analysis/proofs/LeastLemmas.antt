-- The least of labels, and the two least.
use Rattle.std.proofs.Common.{◌≡◌, ◌≢◌, ℕ, ◌≤◌, ◌⊎◌, Option, Some, None, inl, inr, refl, sym, subst, arith, ap}
use Rattle.initializer_analysis.specs.declared.labels.Least.{Least}
use Rattle.initializer_analysis.specs.Least.{IsFirst, AreLeast, IsOf}

-- ---- the least

-- of the same labels
pub IsFirst-same : (P Q : ℕ → Type 0) (c : Option ℕ) → ((l : ℕ) → P l → Q l) → ((l : ℕ) → Q l → P l) → IsFirst P c
    → IsFirst Q c
IsFirst-same P Q None to back none = λ l q. none l (back l q)
IsFirst-same P Q (Some f) to back (is, least) = (to f is, λ l q. least l (back l q))

-- it is one of them
pub IsFirst-is : (P : ℕ → Type 0) (c : Option ℕ) (l : ℕ) → IsFirst P c → c ≡ Some l → P l
IsFirst-is P None l none e = absurd (let bad : None ≡ Some l = e in cc)
IsFirst-is P (Some f) l (is, least) e = (let same : f ≡ l = cc in subst P same is)

-- none of them is less
pub IsFirst-least : (P : ℕ → Type 0) (c : Option ℕ) (l : ℕ) → IsFirst P c → P l → (m : ℕ) × (c ≡ Some m) × (m ≤ l)
IsFirst-least P None l none p = absurd (none l p)
IsFirst-least P (Some f) l (is, least) p = (f, refl, least l p)

-- of those of two kinds, from the least of each
pub IsFirst-joined : (P Q : ℕ → Type 0) (a b c : Option ℕ) → IsFirst P a → IsFirst Q b
    → IsFirst (λ l. (a ≡ Some l) ⊎ (b ≡ Some l)) c → IsFirst (λ l. P l ⊎ Q l) c
IsFirst-joined P Q a b None p q none = λ l h. elim h [
  | inl in_p ↦ (let m = IsFirst-least P a l p in_p in none m.0 (inl m.1))
  | inr in_q ↦ (let m = IsFirst-least Q b l q in_q in none m.0 (inr m.1))
]
IsFirst-joined P Q a b (Some f) p q (is, least) = (
  elim is [ inl e ↦ inl (IsFirst-is P a f p e) | inr e ↦ inr (IsFirst-is Q b f q e) ],
  λ l h. elim h [
    | inl in_p ↦ (let m = IsFirst-least P a l p in_p in omega (arith, least m.0 (inl m.1), m.2))
    | inr in_q ↦ (let m = IsFirst-least Q b l q in_q in omega (arith, least m.0 (inr m.1), m.2))
  ],
)

pub IsFirst-but : (least : Least) (other a b c : Option ℕ)
    → IsFirst (λ l. (least.first ≡ Some l) × (¬ (other ≡ Some l))) a
    → IsFirst (λ l. (least.second ≡ Some l) × (¬ (other ≡ Some l))) b
    → IsFirst (λ l. (a ≡ Some l) ⊎ (b ≡ Some l)) c
    → IsFirst (λ l. IsOf least l × (¬ (other ≡ Some l))) c
IsFirst-but least other a b c p q joined =
    IsFirst-same
    (λ l. ((least.first ≡ Some l) × (¬ (other ≡ Some l))) ⊎ ((least.second ≡ Some l) × (¬ (other ≡ Some l))))
    (λ l. IsOf least l × (¬ (other ≡ Some l))) c
    (λ l h. elim h [ inl e ↦ (inl e.0, e.1) | inr e ↦ (inr e.0, e.1) ])
    (λ l h. elim h.0 [ inl e ↦ inl (e, h.1) | inr e ↦ inr (e, h.1) ])
    (IsFirst-joined (λ l. (least.first ≡ Some l) × (¬ (other ≡ Some l)))
    (λ l. (least.second ≡ Some l) × (¬ (other ≡ Some l))) a b c p q joined)

-- ---- the two least

-- those of both, from the least of all and the least of the others
pub AreLeast-joined : (a b : Least) (first second p q r s : Option ℕ)
    → IsFirst (λ l. (a.first ≡ Some l) ⊎ (a.second ≡ Some l)) p
    → IsFirst (λ l. (b.first ≡ Some l) ⊎ (b.second ≡ Some l)) q
    → IsFirst (λ l. (p ≡ Some l) ⊎ (q ≡ Some l)) first
    → IsFirst (λ l. IsOf a l × (¬ (first ≡ Some l))) r
    → IsFirst (λ l. IsOf b l × (¬ (first ≡ Some l))) s
    → IsFirst (λ l. (r ≡ Some l) ⊎ (s ≡ Some l)) second
    → AreLeast (λ l. IsOf a l ⊎ IsOf b l) (record { first = first; second = second })
AreLeast-joined a b first second p q r s of_a of_b least in_a in_b others = record {
  first = IsFirst-joined (IsOf a) (IsOf b) p q first of_a of_b least;
  second = IsFirst-same
      (λ l. (IsOf a l × (¬ (first ≡ Some l))) ⊎ (IsOf b l × (¬ (first ≡ Some l))))
      (λ l. (IsOf a l ⊎ IsOf b l) × (¬ (first ≡ Some l))) second
      (λ l h. elim h [ inl e ↦ (inl e.0, e.1) | inr e ↦ (inr e.0, e.1) ])
      (λ l h. elim h.0 [ inl e ↦ inl (e, h.1) | inr e ↦ inr (e, h.1) ])
      (IsFirst-joined (λ l. IsOf a l × (¬ (first ≡ Some l))) (λ l. IsOf b l × (¬ (first ≡ Some l))) r s second in_a in_b
      others);
}

-- some of P stand for all of it: for each of P there is one of them that is no greater, also beside any one label
pub record Stands (S P : ℕ → Type 0) : Type 0 where
  pub within : (l : ℕ) → S l → P l
  pub least : (l : ℕ) → P l → (m : ℕ) × S m × (m ≤ l)
  pub others : (l x : ℕ) → P l → l ≢ x → (m : ℕ) × S m × (m ≤ l) × (m ≢ x)

-- the two least stand for all
pub Stands-least : (P : ℕ → Type 0) (c : Least) → AreLeast P c → Stands (IsOf c) P
Stands-least P c a = record {
  within = λ l h. elim h [
    | inl e ↦ IsFirst-is P c.first l a.first e
    | inr e ↦ (IsFirst-is (λ l. P l × (¬ (c.first ≡ Some l))) c.second l a.second e).0
  ];
  least = λ l p. (let m = IsFirst-least P c.first l a.first p in (m.0, inl m.1, m.2));
  others = λ l x p n. (let m = IsFirst-least P c.first l a.first p in elim (same_or m.0 x) [
    | inr other ↦ (m.0, inl m.1, m.2, other)
    | inl is ↦ second l x p n (subst (λ (y : ℕ). c.first ≡ Some y) is m.1)
  ]);
}
  where
    same_or : (u v : ℕ) → (u ≡ v) ⊎ (u ≢ v)
    same_or u v = grind arith

    second : (l x : ℕ) → P l → l ≢ x → c.first ≡ Some x → (m : ℕ) × IsOf c m × (m ≤ l) × (m ≢ x)
    second l x p n e =
        (let m = IsFirst-least (λ l. P l × (¬ (c.first ≡ Some l))) c.second l a.second
        (p, λ f. n (let same : l ≡ x = cc in same)) in (
          m.0,
          inr m.1,
          m.2,
          λ is. (IsFirst-is (λ l. P l × (¬ (c.first ≡ Some l))) c.second m.0 a.second m.1).1
              (subst (λ (y : ℕ). c.first ≡ Some y) (sym is) e),
        ))

-- the two least of those that stand for all are the two least of all
pub AreLeast-stands : (S P : ℕ → Type 0) (c : Least) → Stands S P → AreLeast S c → AreLeast P c
AreLeast-stands S P c s a = record { first = first c.first a.first; second = second c.first c.second a.first a.second }
  where
    first : (f : Option ℕ) → IsFirst S f → IsFirst P f
    first None none = λ l p. (let m = s.least l p in none m.0 m.1)
    first (Some f) (is, least) = (s.within f is, λ l p. (let m = s.least l p in omega (arith, least m.0 m.1, m.2)))

    some_same : (u v : ℕ) → Some u ≡ Some v → u ≡ v
    some_same u v e = cc

    second : (f g : Option ℕ) → IsFirst S f → IsFirst (λ l. S l × (¬ (f ≡ Some l))) g
        → IsFirst (λ l. P l × (¬ (f ≡ Some l))) g
    second None g none h = IsFirst-same (λ l. S l × (¬ (None ≡ Some l))) (λ l. P l × (¬ (None ≡ Some l))) g
        (λ l p. (s.within l p.0, p.1)) (λ l p. (let m = s.least l p.0 in absurd (none m.0 m.1))) h
    second (Some f) None is none = λ l p.
        (let m = s.others l f p.0 (λ e. p.1 (ap Some (sym e))) in
        none m.0 (m.1, λ e. m.3 (sym (some_same f m.0 e))))
    second (Some f) (Some g) is (in_s, least) = (
      (s.within g in_s.0, in_s.1),
      λ l p. (let m = s.others l f p.0 (λ e. p.1 (ap Some (sym e))) in
          omega (arith, least m.0 (m.1, λ e. m.3 (sym (some_same f m.0 e))), m.2)),
    )

pub Stands-itself : (P : ℕ → Type 0) → Stands P P
Stands-itself P = record {
  within = λ l h. h;
  least = λ l p. (l, p, omega arith);
  others = λ l x p n. (l, p, omega arith, n);
}

-- those that stand for two kinds
pub Stands-joined : (S T P Q : ℕ → Type 0) → Stands S P → Stands T Q → Stands (λ l. S l ⊎ T l) (λ l. P l ⊎ Q l)
Stands-joined S T P Q s t = record {
  within = λ l h. elim h [ inl p ↦ inl (s.within l p) | inr q ↦ inr (t.within l q) ];
  least = λ l h. elim h [
    | inl p ↦ (let m = s.least l p in (m.0, inl m.1, m.2))
    | inr q ↦ (let m = t.least l q in (m.0, inr m.1, m.2))
  ];
  others = λ l x h n. elim h [
    | inl p ↦ (let m = s.others l x p n in (m.0, inl m.1, m.2, m.3))
    | inr q ↦ (let m = t.others l x q n in (m.0, inr m.1, m.2, m.3))
  ];
}

-- those that stand for each of many kinds
pub Stands-each : (I : ℕ → Type 0) (S P : ℕ → ℕ → Type 0) → ((i : ℕ) → I i → Stands (S i) (P i))
    → Stands (λ l. (i : ℕ) × I i × S i l) (λ l. (i : ℕ) × I i × P i l)
Stands-each I S P each = record {
  within = λ l (i, is, h). (i, is, (each i is).within l h);
  least = λ l (i, is, p). (let m = (each i is).least l p in (m.0, (i, is, m.1), m.2));
  others = λ l x (i, is, p) n. (let m = (each i is).others l x p n in (m.0, (i, is, m.1), m.2, m.3));
}

-- of the same labels
pub AreLeast-same : (P Q : ℕ → Type 0) (c : Least) → ((l : ℕ) → P l → Q l) → ((l : ℕ) → Q l → P l) → AreLeast P c
    → AreLeast Q c
AreLeast-same P Q c to back a =
    AreLeast-stands P Q c (record {
      within = to;
      least = λ l q. (l, back l q, omega arith);
      others = λ l x q n. (l, back l q, omega arith, n);
    }) a

-- the two least of both, from the two least of each
pub AreLeast-of_joined : (P Q : ℕ → Type 0) (a b c : Least) → AreLeast P a → AreLeast Q b
    → AreLeast (λ l. IsOf a l ⊎ IsOf b l) c
    → AreLeast (λ l. P l ⊎ Q l) c
AreLeast-of_joined P Q a b c p q joined =
    AreLeast-stands (λ l. IsOf a l ⊎ IsOf b l) (λ l. P l ⊎ Q l) c
    (Stands-joined (IsOf a) (IsOf b) P Q (Stands-least P a p) (Stands-least Q b q)) joined

-- the least but one, from the two least
pub IsFirst-of_least : (P : ℕ → Type 0) (a : Least) (label : ℕ) (c : Option ℕ) → AreLeast P a
    → IsFirst (λ l. IsOf a l × (l ≢ label)) c
    → IsFirst (λ l. P l × (l ≢ label)) c
IsFirst-of_least P a label c p first = by_case c first
  where
    s : Stands (IsOf a) P
    s = Stands-least P a p

    by_case : (c : Option ℕ) → IsFirst (λ l. IsOf a l × (l ≢ label)) c → IsFirst (λ l. P l × (l ≢ label)) c
    by_case None none = λ l h. (let m = s.others l label h.0 h.1 in none m.0 (m.1, m.3))
    by_case (Some f) (is, least) = (
      (s.within f is.0, is.1),
      λ l h. (let m = s.others l label h.0 h.1 in omega (arith, least m.0 (m.1, m.3), m.2)),
    )

-- one label more
pub AreLeast-more : (a b c : Least) (label : ℕ) → AreLeast (λ l. l ≡ label) b
    → AreLeast (λ l. IsOf a l ⊎ IsOf b l) c
    → AreLeast (λ l. IsOf a l ⊎ (l ≡ label)) c
AreLeast-more a b c label one joined =
    AreLeast-stands (λ l. IsOf a l ⊎ IsOf b l) (λ l. IsOf a l ⊎ (l ≡ label)) c
    (Stands-joined (IsOf a) (IsOf b) (IsOf a) (λ l. l ≡ label) (Stands-itself (IsOf a))
    (Stands-least (λ l. l ≡ label) b one)) joined

pub IsFirst-but_one : (a : Least) (label : ℕ) (c : Option ℕ)
    → IsFirst (λ l. IsOf a l × (¬ (Some label ≡ Some l))) c
    → IsFirst (λ l. IsOf a l × (l ≢ label)) c
IsFirst-but_one a label c h =
    IsFirst-same (λ l. IsOf a l × (¬ (Some label ≡ Some l))) (λ l. IsOf a l × (l ≢ label)) c
    (λ l p. (p.0, λ e. p.1 (ap Some (sym e)))) (λ l p. (p.0, λ e. p.1 (some_same l e))) h
  where
    some_same : (l : ℕ) → Some label ≡ Some l → l ≡ label
    some_same l e = cc
