-- The refused classes that a class uses, by what its class initialization method reaches and what is initialized
-- before it.
use Rattle.std.proofs.Common.{◌≡◌, ◌≢◌, ◌⊎◌, ℕ, ◌+◌, ◌<◌, Bool, false, IsTrue, List, [], ◌∷◌, ◌++◌, length, Option}
use Rattle.std.proofs.Common.{Some, None, slice_get, slice_index_or, refl, sym, subst, inl, inr, arith}
use Rattle.std.specs.List.{Contains}
use Rattle.std.proofs.lemmas.Grind.{common_steps}
use Rattle.std.proofs.lemmas.List.{get_or_push, length_push}
use Rattle.program.specs.Tables.{Tables, initializer_in, order_in}
use Rattle.hierarchy.specs.declared.member.DeclaredMember.{DeclaredMember}
use Rattle.use_graph.specs.declared.whole_program.UseGraph.{UseGraph}
use Rattle.use_graph.specs.Uses.{MayNeed}
use Rattle.use_graph.specs.steps.Bodies.{IsUseGraph}
use Rattle.use_graph.specs.steps.Deeds.{HoldsOfOne}
use Rattle.use_graph.specs.steps.Searching.{StartsAt}
use Rattle.use_graph.proofs.ReachedLemmas.{runs_reached, reached_runs}
use Rattle.initializer_analysis.specs.declared.labels.Least.{Least}
use Rattle.initializer_analysis.specs.Least.{IsFirst, AreLeast, IsOf}
use Rattle.initializer_analysis.specs.steps.LeastReached.{no_labels}
use Rattle.initializer_analysis.specs.RefusedUses.{IsRefusedUse}
use Rattle.initializer_analysis.specs.steps.RefusedUses.{IsRefusedOf, ReachesRefused, AreRefusedNeeds}
use Rattle.initializer_analysis.proofs.LeastLemmas.{IsFirst-same, IsFirst-of_least, AreLeast-of_joined}
use Rattle.initializer_analysis.proofs.MarkingLemmas.{method_of, body_of, start_small, none_runs}

-- those of some classes that are below a limit and refused
abbrev pub IsRefusedAmong : List Bool → ℕ → List ℕ → ℕ → Type 0
IsRefusedAmong refused limit classes e = HoldsOfOne (IsRefusedOf refused limit) classes e

module _ (P : Tables) (uses : UseGraph) (refused : List Bool) (c : ℕ) (whole : IsUseGraph P uses) where
  -- ---- what is initialized before the class

  abbrev IsBefore : ℕ → Type 0
  IsBefore e = IsRefusedAmong refused (length P.classes) (order_in P c) e

  before_use : (e : ℕ) → IsBefore e → e ≢ c → IsRefusedUse P refused c e
  before_use e (x, among, (same, low, holds)) other =
      ((low, other, inl (subst (λ (y : ℕ). Contains (order_in P c) y) (sym same) among)), holds)

  before_at : (lim : ℕ) (order : List ℕ) (before : Least) → lim ≡ length P.classes → order ≡ order_in P c
      → AreLeast (IsRefusedAmong refused lim order) before → AreLeast IsBefore before
  before_at lim order before size is a =
      subst (λ (n : ℕ). AreLeast (IsRefusedAmong refused n (order_in P c)) before) size
      (subst (λ (o : List ℕ). AreLeast (IsRefusedAmong refused lim o) before) is a)

  -- ---- what its methods need

  reached_use : (m s e : ℕ) → initializer_in P c ≡ Some m
      → slice_get uses.methods s ≡ Some (record { class = c; index = m })
      → ReachesRefused uses refused (length P.classes) s e → e ≢ c → IsRefusedUse P refused c e
  reached_use m s e begins number (n, path, (b, here, (x, need, (same, low, holds)))) other =
      let (y, at) = method_of P uses whole n b here in
      let runs = reached_runs P uses.methods uses.calls whole.methods whole.calls c m s begins number n y at path in
      let needs = ((whole.bodies n y b at here).needs e).0
      (subst (λ (z : ℕ). Contains b.needs.items z) (sym same) need) in
      ((low, other, inr (y.class, y.index, runs, needs)), holds)

  need_reached : (m s e : ℕ) → initializer_in P c ≡ Some m
      → slice_get uses.methods s ≡ Some (record { class = c; index = m })
      → MayNeed P c e → e < length P.classes → IsTrue (slice_index_or refused e false)
      → ReachesRefused uses refused (length P.classes) s e
  need_reached m s e begins number (d, k, runs, needs) low holds =
      let x : DeclaredMember = record { class = d; index = k } in
      let (n, path, at) =
      runs_reached P uses.methods uses.calls whole.methods whole.calls c m s begins number d k runs in
      let (b, here) = body_of P uses whole n x at in
      (n, path, (b, here, (e, ((whole.bodies n x b at here).needs e).1 needs, (refl, low, holds))))

  -- ---- both

  abbrev IsEither : ℕ → ℕ → Type 0
  IsEither s e = IsBefore e ⊎ ReachesRefused uses refused (length P.classes) s e

  either_use : (m s : ℕ) → initializer_in P c ≡ Some m
      → slice_get uses.methods s ≡ Some (record { class = c; index = m })
      → (e : ℕ) → IsEither s e × (e ≢ c) → IsRefusedUse P refused c e
  either_use m s begins number e (inl before, other) = before_use e before other
  either_use m s begins number e (inr reached, other) = reached_use m s e begins number reached other

  use_either : (m s : ℕ) → initializer_in P c ≡ Some m
      → slice_get uses.methods s ≡ Some (record { class = c; index = m })
      → (e : ℕ) → IsRefusedUse P refused c e → IsEither s e × (e ≢ c)
  use_either m s begins number e ((low, other, inl before), holds) = (inl (e, before, (refl, low, holds)), other)
  use_either m s begins number e ((low, other, inr may), holds) =
      (inr (need_reached m s e begins number may low holds), other)

  pub first_by_both : (table : List Least) (s lim : ℕ) (order : List ℕ) (before joined : Least) (first : Option ℕ)
      → AreRefusedNeeds uses refused (length P.classes) table → StartsAt P uses.methods c (Some s)
      → lim ≡ length P.classes → order ≡ order_in P c
      → AreLeast (IsRefusedAmong refused lim order) before
      → AreLeast (λ l. IsOf before l ⊎ IsOf (slice_index_or table s no_labels) l) joined
      → IsFirst (λ l. IsOf joined l × (l ≢ c)) first
      → IsFirst (IsRefusedUse P refused c) first
  first_by_both table s lim order before joined first are (m, begins, number) size is of_order both but =
      IsFirst-same (λ l. IsEither s l × (l ≢ c)) (IsRefusedUse P refused c) first (either_use m s begins number)
      (use_either m s begins number)
      (IsFirst-of_least (IsEither s) joined c first
      (AreLeast-of_joined IsBefore (ReachesRefused uses refused (length P.classes) s) before
      (slice_index_or table s no_labels) joined (before_at lim order before size is of_order)
      (are.least s (start_small P uses c s whole (m, begins, number))) both) but)

  pub first_by_order : (lim : ℕ) (order : List ℕ) (before : Least) (first : Option ℕ) → StartsAt P uses.methods c None
      → lim ≡ length P.classes → order ≡ order_in P c
      → AreLeast (IsRefusedAmong refused lim order) before
      → IsFirst (λ l. IsOf before l × (l ≢ c)) first
      → IsFirst (IsRefusedUse P refused c) first
  first_by_order lim order before first none size is of_order but =
      IsFirst-same (λ l. IsBefore l × (l ≢ c)) (IsRefusedUse P refused c) first
      (λ e (h, other). before_use e h other) back
      (IsFirst-of_least IsBefore before c first (before_at lim order before size is of_order) but)
    where
      back : (e : ℕ) → IsRefusedUse P refused c e → IsBefore e × (e ≢ c)
      back e ((low, other, inl h), holds) = ((e, h, (refl, low, holds)), other)
      back e ((low, other, inr (d, k, runs, needs)), holds) = absurd (none_runs P c none d k runs)

-- ---- of each class

-- of the first so many
abbrev pub AreFirstBelow : Tables → List Bool → ℕ → List (Option ℕ) → Type 0
AreFirstBelow P refused i first = (c : ℕ) → c < i → IsFirst (IsRefusedUse P refused c) (slice_index_or first c None)

pub firsts_more : (P : Tables) (refused : List Bool) (i : ℕ) (old new : List (Option ℕ)) (x : Option ℕ)
    → length old ≡ i → new ≡ old ++ x ∷ [] → AreFirstBelow P refused i old
    → IsFirst (IsRefusedUse P refused i) x → AreFirstBelow P refused (i + 1) new
firsts_more P refused i old new x len pushed before here c low = elim (below_or c low) [
  | inl less ↦ subst (λ (o : Option ℕ). IsFirst (IsRefusedUse P refused c) o) (sym (kept c less)) (before c less)
  | inr is ↦ subst (λ (d : ℕ). IsFirst (IsRefusedUse P refused d) (slice_index_or new d None)) (sym is)
      (subst (λ (o : Option ℕ). IsFirst (IsRefusedUse P refused i) o) (sym last) here)
]
  where
    below_or : (u : ℕ) → u < i + 1 → (u < i) ⊎ (u ≡ i)
    below_or u small = grind arith

    kept : (u : ℕ) → u < i → slice_index_or new u None ≡ slice_index_or old u None
    kept u less = grind (arith, common_steps)

    last : slice_index_or new i None ≡ x
    last = rw pushed (get_or_push old x None i len)

pub firsts_count : (old new : List (Option ℕ)) (x : Option ℕ) (i : ℕ) → length old ≡ i → new ≡ old ++ x ∷ []
    → length new ≡ i + 1
firsts_count old new x i len pushed = rw pushed (rw length_push (omega arith))
