-- Classes to which their ancestors are added.
use Rattle.std.proofs.Common.{◌≡◌, ℕ, ◌+◌, ◌<◌, ◌≤◌, ◌↔◌, ◌⊎◌, Bool, List, [], ◌∷◌, ◌++◌, length}
use Rattle.std.proofs.Common.{slice_index, slice_index_or, take, inl, inr, refl, sym, subst, arith}
use Rattle.std.specs.List.{All, Contains}
use Rattle.std.proofs.lemmas.Grind.{common_steps}
use Rattle.std.proofs.lemmas.List.{take_more}
use Rattle.std.proofs.lemmas.List.Elements.{All-contains, All-weaker, All-nil, Contains-get_or, Contains-append_left}
use Rattle.std.proofs.lemmas.List.Elements.{Contains-append_right, Contains-append_cases}
use Rattle.loading.specs.Families.{Family, IsAncestor, parent, further, parents_in}
use Rattle.graph.specs.Seen.{Joins}
use Rattle.graph.specs.steps.Adds.{Adds}
use Rattle.graph.proofs.AddsLemmas.{adds_more}
use Rattle.hierarchy.specs.steps.Above.{IsAmongOrAbove}
use Rattle.hierarchy.proofs.AboveLemmas.{ancestor_through}

-- ---- classes added one after another

pub adds_none : (old : List ℕ) → Adds old [] old
adds_none old = record {
  grows = omega arith;
  same = λ k small. refl;
  keeps = λ x has. has;
  added = All-nil (Contains old);
  only = λ x has. inl has;
}

pub adds_one : (fresh : Bool) (old new : List ℕ) (d : ℕ) → Joins fresh old d new → Adds old (d ∷ []) new
adds_one fresh old new d joins =
    adds_more fresh old (d ∷ []) old new 0 d (omega arith) refl (adds_none old) joins

-- a list after a list
pub adds_both : (old first middle second new : List ℕ) → Adds old first middle → Adds middle second new
    → Adds old (first ++ second) new
adds_both old first middle second new a b = record {
  grows = omega (arith, a.grows, b.grows);
  same = λ k small. (let less : k < length middle = omega (arith, a.grows) in rw (b.same k less) (a.same k small));
  keeps = λ x has. b.keeps x (a.keeps x has);
  added = All-from (λ x has. elim (Contains-append_cases first second x has) [
    | inl one ↦ b.keeps x (All-contains (Contains middle) first x a.added one)
    | inr two ↦ All-contains (Contains new) second x b.added two
  ]);
  only = λ x has. elim (b.only x has) [
    | inl before ↦ elim (a.only x before) [
      | inl old ↦ inl old
      | inr one ↦ inr (Contains-append_left first second x one)
    ]
    | inr two ↦ inr (Contains-append_right first second x two)
  ];
}
  where
    All-from : ((x : ℕ) → Contains (first ++ second) x → Contains new x) → All (Contains new) (first ++ second)
    All-from each = λ k d small. each _ (Contains-get_or (first ++ second) k d small)

-- one more of a row
pub adds_next : (old row new next : List ℕ) (i b : ℕ) → i < length row → b ≡ slice_index row i
    → Adds old (take i row) new → Adds new (b ∷ []) next → Adds old (take (i + 1) row) next
adds_next old row new next i b small is before one =
    subst (λ (xs : List ℕ). Adds old xs next) (sym (take_more row i 0 small))
    (subst (λ (v : ℕ). Adds old (take i row ++ v ∷ []) next) is
    (adds_both old (take i row) new (b ∷ []) next before one))

-- ---- ancestors

-- the parents of the first `next` of these classes have been added
pub record Climbing (family : Family) (from items : List ℕ) (next : ℕ) : Type 0 where
  pub starts : (x : ℕ) → Contains from x → Contains items x
  pub sound : (x : ℕ) → Contains items x → IsAmongOrAbove family from x
  pub closed : (k : ℕ) → k < next → All (Contains items) (parents_in family (slice_index items k))
  pub up_to : next ≤ length items

-- a parent of a class that is among some or above them is above them
one_up : (family : Family) (from : List ℕ) (x y : ℕ) → IsAmongOrAbove family from x → Contains (parents_in family x) y
    → IsAmongOrAbove family from y
one_up family from x y (inl has) edge = inr (x, has, parent edge)
one_up family from x y (inr up) edge = inr (up.0, up.1, further up.2 edge)

pub climbing_next : (family : Family) (from items new : List ℕ) (next : ℕ) → next < length items
    → Climbing family from items next
    → Adds items (parents_in family (slice_index items next)) new → Climbing family from new (next + 1)
climbing_next family from items new next h s a =
    record {
      starts = λ x has. a.keeps x (s.starts x has);
      sound = λ x has. elim (a.only x has) [
        | inl before ↦ s.sound x before
        | inr edge ↦ one_up family from (slice_index items next) x (s.sound _ (Contains-get_or items next 0 h)) edge
      ];
      closed = λ k small. elim (decide k) [
        | inl less ↦ rw (a.same k (omega (arith, s.up_to)))
            (All-weaker (Contains items) (Contains new) (λ x p. a.keeps x p) _ (s.closed k less))
        | inr same ↦ (let e : k ≡ next = omega arith in rw e (rw (a.same next h) a.added))
      ];
      up_to = omega (arith, a.grows);
    }
  where
    decide : (k : ℕ) → (k < next) ⊎ (next ≤ k)
    decide k = grind arith

pub climbing_done : (family : Family) (from items : List ℕ) (next : ℕ) → length items ≤ next
    → Climbing family from items next → (m : ℕ) → Contains items m ↔ IsAmongOrAbove family from m
climbing_done family from items next h s m =
    (s.sound m, λ above. elim above [ inl has ↦ s.starts m has | inr up ↦ back up.0 m (s.starts up.0 up.1) up.2 ])
  where
    closed : (a b : ℕ) → Contains items a → Contains (parents_in family a) b → Contains items b
    closed a b (k, small, e) p = All-contains (Contains items) _ b (s.closed k (omega arith))
        (subst (λ (v : ℕ). Contains (parents_in family v) b) (at_default k a small e) p)
      where
        at_default : (k a : ℕ) → k < length items → slice_index_or items k a ≡ a → a ≡ slice_index items k
        at_default k a small e = grind (arith, common_steps)

    back : (a b : ℕ) → Contains items a → IsAncestor family a b → Contains items b
    back a b start (parent edge) = closed a b start edge
    back a b start (further {d = d} path edge) = closed d b (back a d start path) edge

-- an ancestor is a parent or above one
pub by_parent : (family : Family) (c m : ℕ) → IsAncestor family c m → IsAmongOrAbove family (parents_in family c) m
by_parent family c m (parent edge) = inl edge
by_parent family c m (further {d = d} path edge) = elim (by_parent family c d path) [
  | inl low ↦ inr (d, low, parent edge)
  | inr high ↦ inr (high.0, high.1, further high.2 edge)
]

-- what is among the parents of a class or above them is above the class
pub above_parents : (family : Family) (c : ℕ) (first all : List ℕ) → Adds [] (parents_in family c) first
    → ((m : ℕ) → Contains all m ↔ IsAmongOrAbove family first m) → (m : ℕ) → Contains all m ↔ IsAncestor family c m
above_parents family c first all a members m = (
  λ has. elim ((members m).0 has) [
    | inl low ↦ up m low
    | inr high ↦ ancestor_through (up high.0 high.1) high.2
  ],
  λ above. (members m).1 (elim (by_parent family c m above) [
    | inl edge ↦ inl (All-contains (Contains first) (parents_in family c) m a.added edge)
    | inr more ↦ inr (more.0, All-contains (Contains first) (parents_in family c) more.0 a.added more.1, more.2)
  ]),
)
  where
    up : (x : ℕ) → Contains first x → IsAncestor family c x
    up x has = elim (a.only x has) [ inl none ↦ absurd (omega (arith, none.1)) | inr edge ↦ parent edge ]
