-- The methods that may run are those that the graph of calls reaches.
use Rattle.std.proofs.Common.{◌≡◌, ◌↔◌, ◌⊎◌, ℕ, ◌+◌, List, length, Some, slice_get, refl, sym, ap}
use Rattle.std.proofs.Common.{subst, ◌∙◌, inl, inr, arith}
use Rattle.std.specs.List.{Contains}
use Rattle.std.proofs.lemmas.Option.{slice_get_within}
use Rattle.graph.specs.Rows.{Rows}
use Rattle.graph.specs.Reaches.{Reaches, itself, along}
use Rattle.program.specs.Tables.{Tables, initializer_in}
use Rattle.hierarchy.specs.declared.member.DeclaredMember.{DeclaredMember}
use Rattle.hierarchy.specs.Selectable.{IsNamedLike}
use Rattle.use_graph.specs.Uses.{IsDeclared, MayRun, initializer, called}
use Rattle.use_graph.specs.steps.Numbers.{AreMethods}
use Rattle.use_graph.specs.steps.CallGraphs.{IsEdge, calls, selects, named, LeadsTo, IsCallGraph}
use Rattle.use_graph.specs.steps.Searching.{AreReached}

module _ (P : Tables) (methods : List DeclaredMember) (graph : Rows) (all : AreMethods P methods)
    (whole : IsCallGraph P methods graph) (c m s : ℕ) (begins : initializer_in P c ≡ Some m)
    (number : slice_get methods s ≡ Some (record { class = c; index = m })) where
  -- ---- what is reached may run

  -- a method that may run, or one whose likes may run
  abbrev Known : ℕ → Type 0
  Known v = ((x : DeclaredMember) × (slice_get methods v ≡ Some x) × MayRun P c x.class x.index)
      ⊎ ((r : ℕ) × (z : DeclaredMember) × (v ≡ length methods + r) × (slice_get methods r ≡ Some z)
      × ((e j : ℕ) → IsNamedLike P.family z e j → IsDeclared P e j → MayRun P c e j))

  declared : (n : ℕ) (x : DeclaredMember) → slice_get methods n ≡ Some x → IsDeclared P x.class x.index
  declared n x at = (all x.class x.index).1 (n, at)

  same_method : (n : ℕ) (x y : DeclaredMember) → slice_get methods n ≡ Some x → slice_get methods n ≡ Some y → x ≡ y
  same_method n x y p q = (let two : Some x ≡ Some y = sym p ∙ q in cc)

  -- a number of a method is not that of a group
  apart : (n r : ℕ) (x : DeclaredMember) → slice_get methods n ≡ Some x → n ≡ length methods + r → ⊥
  apart n r x at is = (let low = slice_get_within methods n x at in omega arith)

  caller_runs : (n : ℕ) (x : DeclaredMember) → slice_get methods n ≡ Some x → Known n → MayRun P c x.class x.index
  caller_runs n x at (inl (y, here, runs)) =
      subst (λ (z : DeclaredMember). MayRun P c z.class z.index) (same_method n y x here at) runs
  caller_runs n x at (inr (r, z, is, here, like)) = absurd (apart n r x at is)

  like_runs : (v r : ℕ) (z : DeclaredMember) → v ≡ length methods + r → slice_get methods r ≡ Some z → Known v
      → (e j : ℕ) → IsNamedLike P.family z e j → IsDeclared P e j → MayRun P c e j
  like_runs v r z is at (inl (y, here, runs)) = absurd (apart v r y here is)
  like_runs v r z is at (inr (q, y, also, here, like)) =
      let same : q ≡ r = omega arith in
      let member : y ≡ z = same_method r y z (subst (λ (n : ℕ). slice_get methods n ≡ Some y) same here) at in
      subst (λ (x : DeclaredMember). (e j : ℕ) → IsNamedLike P.family x e j → IsDeclared P e j → MayRun P c e j) member
      like

  step : (a b : ℕ) → IsEdge P methods a b → Known a → Known b
  step a b (calls {y = y} at to goes) known =
      inl (y, to, called (caller_runs a _ at known) goes (declared b y to))
  step a b (selects r {z = z} at group goes) known =
      inr (r, z, refl, group, λ e j like there. called (caller_runs a _ at known) (goes e j like) there)
  step a b (named r {z = z} {y = y} group to like) known =
      inl (y, to, like_runs a r z refl group known y.class y.index like (declared b y to))

  reached_known : (v : ℕ) → Reaches graph s v → Known v
  reached_known v itself =
      inl (
        record { class = c; index = m },
        number,
        initializer begins (declared s (record { class = c; index = m }) number),
      )
  reached_known v (along {a = a} before edge) = step a v (whole.sound a v edge) (reached_known a before)

  pub reached_runs : (n : ℕ) (x : DeclaredMember) → slice_get methods n ≡ Some x → Reaches graph s n
      → MayRun P c x.class x.index
  reached_runs n x at path = caller_runs n x at (reached_known n path)

  -- ---- what may run is reached

  abbrev IsReachedAt : ℕ → ℕ → Type 0
  IsReachedAt d k = (n : ℕ) × Reaches graph s n × (slice_get methods n ≡ Some (record { class = d; index = k }))

  leads_on : (n e j : ℕ) → Reaches graph s n → LeadsTo methods graph n e j → IsReachedAt e j
  leads_on n e j before (to, at, inl edge) = (to, along before edge, at)
  leads_on n e j before (to, at, inr (r, first, then)) = (to, along (along before first) then, at)

  pub runs_reached : (d k : ℕ) → MayRun P c d k → IsReachedAt d k
  runs_reached d k (initializer {m = i} at there) = (
    s,
    itself,
    number ∙ ap (λ (x : ℕ). Some (let r : DeclaredMember = record { class = c; index = x } in r))
        (let two : Some m ≡ Some i = sym begins ∙ at in let is : m ≡ i = cc in is),
  )
  runs_reached d k (called {d = x} {k = y} before goes there) =
      let (n, path, at) = runs_reached x y before in
      leads_on n d k path (whole.complete n x y d k at goes ((all d k).0 there))

  pub are_reached : (reached : List ℕ) → ((v : ℕ) → Contains reached v ↔ Reaches graph s v)
      → AreReached P methods c reached
  are_reached reached members x = (
    λ (n, among, at). reached_runs n x at ((members n).0 among),
    λ runs. (let (n, path, at) = runs_reached x.class x.index runs in (n, (members n).1 path, at)),
  )

-- ---- a class without a class initialization method runs none

pub run_begins : (P : Tables) (c d k : ℕ) → MayRun P c d k
    → (m : ℕ) × (initializer_in P c ≡ Some m) × IsDeclared P c m
run_begins P c d k (initializer {m = m} at there) = (m, at, there)
run_begins P c d k (called {d = x} {k = y} before goes there) = run_begins P c x y before

pub none_run : (P : Tables) (methods : List DeclaredMember) (c : ℕ) (reached : List ℕ)
    → ((m : ℕ) → initializer_in P c ≡ Some m → IsDeclared P c m → ⊥) → length reached ≡ 0
    → AreReached P methods c reached
none_run P methods c reached none empty x = (
  λ (n, (k, small, e), at). absurd (omega arith),
  λ runs. (let (m, at, there) = run_begins P c x.class x.index runs in absurd (none m at there)),
)
