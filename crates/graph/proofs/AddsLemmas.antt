-- A search that adds rows to a list until none is left, and what it then has.
use Rattle.std.proofs.Common.{◌≡◌, ℕ, ◌+◌, ◌<◌, ◌≤◌, ◌↔◌, Bool, true, false, List, [], ◌∷◌, ◌++◌, length, take}
use Rattle.std.proofs.Common.{slice_index, slice_index_or, ◌⊎◌, inl, inr, sym, subst, arith}
use Rattle.std.specs.List.{All, Contains}
use Rattle.std.proofs.lemmas.Grind.{common_steps}
use Rattle.std.proofs.lemmas.List.Elements.{All-contains, All-weaker, All-more, All-get_or, Contains-append_left}
use Rattle.std.proofs.lemmas.List.Elements.{Contains-push, Contains-push_cases, All-contains_itself}
use Rattle.std.proofs.lemmas.List.{length-take}
use Rattle.graph.specs.Rows.{Rows, successors_of}
use Rattle.graph.specs.Reaches.{Reaches, itself, along, IsReached}
use Rattle.graph.specs.Seen.{Joins}
use Rattle.graph.specs.steps.Adds.{Adds}

take_contains : (row : List ℕ) (i x : ℕ) → Contains (take i row) x → Contains (take (i + 1) row) x
take_contains row i x h = grind (arith, common_steps)

take_here : (row : List ℕ) (i b : ℕ) → i < length row → b ≡ slice_index row i → Contains (take (i + 1) row) b
take_here row i b h e = (i, omega (arith, length-take (i + 1) row), grind (arith, common_steps))

pub push_same : (old : List ℕ) (b k : ℕ) → k < length old → slice_index (old ++ b ∷ []) k ≡ slice_index old k
push_same old b k h = grind (arith, common_steps)

pub adds_more : (fresh : Bool) (old row new next : List ℕ) (i b : ℕ) → i < length row → b ≡ slice_index row i
    → Adds old (take i row) new → Joins fresh new b next → Adds old (take (i + 1) row) next
adds_more true old row new next i b h e a (absent, s) = rw s (record {
  grows = grind (arith, common_steps, a.grows);
  same = λ k small. grind (arith, common_steps, a.same k small, a.grows, push_same new b k (omega (arith, a.grows)));
  keeps = λ x p. Contains-append_left new (b ∷ []) x (a.keeps x p);
  added =
      All-more (Contains (new ++ b ∷ [])) row i 0 h
      (All-weaker _ _ (λ x p. Contains-append_left new (b ∷ []) x p) _ a.added)
      (subst (λ (v : ℕ). Contains (new ++ b ∷ []) v) e (Contains-push new b));
  only = λ x p. elim (Contains-push_cases new b x p) [
    | inl q ↦ elim (a.only x q) [ inl o ↦ inl o | inr r ↦ inr (take_contains row i x r) ]
    | inr q ↦ inr (subst (λ (v : ℕ). Contains (take (i + 1) row) v) q (take_here row i b h e))
  ];
})
adds_more false old row new next i b h e a (was, s) = rw s (record {
  grows = a.grows;
  same = a.same;
  keeps = a.keeps;
  added = All-more (Contains new) row i 0 h a.added (subst (λ (v : ℕ). Contains new v) e was);
  only = λ x p. elim (a.only x p) [ inl o ↦ inl o | inr r ↦ inr (take_contains row i x r) ];
})

-- the rows of the first `next` of these vertices have been added
pub record Searching (graph : Rows) (from items : List ℕ) (next : ℕ) : Type 0 where
  pub starts : All (Contains items) from
  pub sound : All (IsReached graph from) items
  pub closed : (k : ℕ) → k < next → All (Contains items) (successors_of graph (slice_index items k))
  pub up_to : next ≤ length items

pub searching_first : (graph : Rows) (from items : List ℕ) → Adds [] from items → Searching graph from items 0
searching_first graph from items a = record {
  starts = a.added;
  sound =
      All-weaker (Contains items) (IsReached graph from)
      (λ x p. elim (a.only x p) [ inl none ↦ absurd (omega (arith, none.1)) | inr start ↦ (x, start, itself) ]) items
      (All-contains_itself items);
  closed = λ k small. absurd (omega arith);
  up_to = omega arith;
}

pub searching_next : (graph : Rows) (from items new : List ℕ) (next : ℕ) → next < length items
    → Searching graph from items next
    → Adds items (successors_of graph (slice_index items next)) new → Searching graph from new (next + 1)
searching_next graph from items new next h s a =
    record {
      starts = All-weaker (Contains items) (Contains new) (λ x p. a.keeps x p) from s.starts;
      sound =
          All-weaker (Contains new) (IsReached graph from)
          (λ x p. elim (a.only x p) [
            | inl o ↦ All-contains (IsReached graph from) items x s.sound o
            | inr r ↦ one_on x r
          ]) new (All-contains_itself new);
      closed = λ k small. elim (decide k) [
        | inl less ↦ rw (a.same k (omega (arith, s.up_to)))
            (All-weaker (Contains items) (Contains new) (λ x p. a.keeps x p) _ (s.closed k less))
        | inr same ↦ (let e : k ≡ next = omega arith in rw e (rw (a.same next h) a.added))
      ];
      up_to = omega (arith, more);
    }
  where
    decide : (k : ℕ) → (k < next) ⊎ (next ≤ k)
    decide k = grind arith

    more : next + 1 ≤ length new
    more = omega (arith, a.grows)

    one_on : (x : ℕ) → Contains (successors_of graph (slice_index items next)) x → IsReached graph from x
    one_on x edge =
        (let start = All-get_or (IsReached graph from) items next 0 h s.sound in (start.0, start.1, along start.2 edge))

pub searching_done : (graph : Rows) (from items : List ℕ) (next : ℕ) → length items ≤ next
    → Searching graph from items next → (m : ℕ) → Contains items m ↔ IsReached graph from m
searching_done graph from items next h s m = (
  λ p. All-contains (IsReached graph from) items m s.sound p,
  λ (a, start, path). back a m
      (All-contains (Contains items) from a s.starts start) path,
)
  where
    closed : (a b : ℕ) → Contains items a → Contains (successors_of graph a) b → Contains items b
    closed a b (k, small, e) p = All-contains (Contains items) _ b (s.closed k (omega arith))
        (subst (λ (v : ℕ). Contains (successors_of graph v) b) (at_default k a small e) p)
      where
        at_default : (k a : ℕ) → k < length items → slice_index_or items k a ≡ a → a ≡ slice_index items k
        at_default k a small e = grind (arith, common_steps)

    back : (a b : ℕ) → Contains items a → Reaches graph a b → Contains items b
    back a b start itself = start
    back a b start (along {a = d} path edge) = closed d b (back a d start path) edge

-- one vertex alone as the start
pub reached_from_one : (graph : Rows) (from m : ℕ) → IsReached graph (from ∷ []) m ↔ Reaches graph from m
reached_from_one graph from m = (
  λ (a, start, path). subst (λ (v : ℕ). Reaches graph v m) (same a start) path,
  λ path. (from, Contains-push [] from, path),
)
  where
    same : (a : ℕ) → Contains (from ∷ []) a → a ≡ from
    same a h = elim (Contains-push_cases [] from a h) [ inl none ↦ absurd (omega (arith, none.1)) | inr e ↦ sym e ]
