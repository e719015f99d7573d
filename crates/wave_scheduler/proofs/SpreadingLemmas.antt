-- A search that goes on over what earlier ones have seen.
use Rattle.std.proofs.Common.{◌≡◌, ◌⊎◌, ℕ, ◌+◌, ◌<◌, ◌≤◌, Bool, true, false, List, [], ◌∷◌, ◌++◌, length}
use Rattle.std.proofs.Common.{slice_index}
use Rattle.std.proofs.Common.{slice_index_or, inl, inr, refl, subst, arith}
use Rattle.std.specs.List.{All, Contains}
use Rattle.std.proofs.lemmas.Grind.{common_steps}
use Rattle.std.proofs.lemmas.List.Elements.{All-contains, All-weaker, All-get_or, Contains-append_left}
use Rattle.std.proofs.lemmas.List.Elements.{Contains-push, Contains-push_cases, All-contains_itself}
use Rattle.graph.specs.Rows.{Rows, successors_of}
use Rattle.graph.specs.Reaches.{Reaches, itself, along}
use Rattle.graph.specs.Seen.{Joins}
use Rattle.graph.specs.steps.Adds.{Adds}
use Rattle.graph.proofs.AddsLemmas.{push_same}
use Rattle.wave_scheduler.specs.steps.Tainting.{IsClosedIn, AddsReached}

-- what was seen before is there, and what a vertex reaches; the first so many have what their successors have
pub record Spreading (graph : Rows) (from : ℕ) (old items : List ℕ) (next : ℕ) : Type 0 where
  pub starts : Contains items from
  pub keeps : (x : ℕ) → Contains old x → Contains items x
  pub sound : (x : ℕ) → Contains items x → Contains old x ⊎ Reaches graph from x
  pub closed : (k : ℕ) → k < next → All (Contains items) (successors_of graph (slice_index items k))
  pub up_to : next ≤ length items

all_in : (members items : List ℕ) → ((x : ℕ) → Contains members x → Contains items x) → All (Contains items) members
all_in members items keeps = All-weaker (Contains members) (Contains items) keeps members (All-contains_itself members)

at_place : (items : List ℕ) (k : ℕ) → k < length items → Contains items (slice_index items k)
at_place items k small = All-get_or (Contains items) items k 0 small (All-contains_itself items)

closed_before : (graph : Rows) (old items : List ℕ) (k : ℕ) → IsClosedIn graph old → k < length old
    → slice_index items k ≡ slice_index old k → ((x : ℕ) → Contains old x → Contains items x)
    → All (Contains items) (successors_of graph (slice_index items k))
closed_before graph old items k closed small same keeps =
    rw same (all_in (successors_of graph (slice_index old k)) items
    (λ x p. keeps x (closed (slice_index old k) x (at_place old k small) p)))

push_grows : (old : List ℕ) (b : ℕ) → length old ≤ length (old ++ b ∷ [])
push_grows old b = grind (arith, common_steps)

pub spreading_first : (graph : Rows) (from : ℕ) (fresh : Bool) (old items : List ℕ) → IsClosedIn graph old
    → Joins fresh old from items → Spreading graph from old items (length old)
spreading_first graph from true old items closed (absent, s) = rw s (record {
  starts = Contains-push old from;
  keeps = λ x p. Contains-append_left old (from ∷ []) x p;
  sound = λ x p. elim (Contains-push_cases old from x p) [
    | inl before ↦ inl before
    | inr is ↦ inr (subst (λ (v : ℕ). Reaches graph from v) is itself)
  ];
  closed = λ k small. closed_before graph old (old ++ from ∷ []) k closed small (push_same old from k small)
      (λ x p. Contains-append_left old (from ∷ []) x p);
  up_to = push_grows old from;
})
spreading_first graph from false old items closed (there, s) = rw s (record {
  starts = there;
  keeps = λ x p. p;
  sound = λ x p. inl p;
  closed = λ k small. closed_before graph old old k closed small refl (λ x p. p);
  up_to = omega arith;
})

pub less_or_same : (k next : ℕ) → k < next + 1 → (k < next) ⊎ (k ≡ next)
less_or_same k next small = grind arith

pub spreading_next : (graph : Rows) (from : ℕ) (old items new : List ℕ) (next : ℕ) → IsClosedIn graph old
    → next < length items → Spreading graph from old items next
    → Adds items (successors_of graph (slice_index items next)) new
    → Spreading graph from old new (next + 1)
spreading_next graph from old items new next closed low s a = record {
  starts = a.keeps from s.starts;
  keeps = λ x p. a.keeps x (s.keeps x p);
  sound = λ x p. elim (a.only x p) [ inl before ↦ s.sound x before | inr edge ↦ one_on x edge ];
  closed = λ k small. elim (less_or_same k next small) [
    | inl less ↦ rw (a.same k (omega (arith, s.up_to)))
        (All-weaker (Contains items) (Contains new) (λ x p. a.keeps x p) _ (s.closed k less))
    | inr same ↦ rw same (rw (a.same next low) a.added)
  ];
  up_to = omega (arith, a.grows);
}
  where
    one_on : (x : ℕ) → Contains (successors_of graph (slice_index items next)) x → Contains old x ⊎ Reaches graph from x
    one_on x edge = elim (s.sound (slice_index items next) (at_place items next low)) [
      | inl before ↦ inl (closed (slice_index items next) x before edge)
      | inr path ↦ inr (along path edge)
    ]

at_default : (items : List ℕ) (k a : ℕ) → k < length items → slice_index_or items k a ≡ a → a ≡ slice_index items k
at_default items k a small e = grind (arith, common_steps)

pub spreading_done : (graph : Rows) (from : ℕ) (old items : List ℕ) (next : ℕ) → length items ≤ next
    → Spreading graph from old items next → AddsReached graph from old items
spreading_done graph from old items next high s v = (
  λ p. s.sound v p,
  λ either. elim either [ inl before ↦ s.keeps v before | inr path ↦ back v path ],
)
  where
    closed : (a b : ℕ) → Contains items a → Contains (successors_of graph a) b → Contains items b
    closed a b (k, small, e) p = All-contains (Contains items) _ b (s.closed k (omega arith))
        (subst (λ (u : ℕ). Contains (successors_of graph u) b) (at_default items k a small e) p)

    back : (b : ℕ) → Reaches graph from b → Contains items b
    back b itself = s.starts
    back b (along {a = d} path edge) = closed d b (back d path) edge
