-- What threads run in a run of some entries is what they may reach.
use Rattle.std.proofs.Common.{◌≡◌, ◌<◌, inl, inr, ℕ, zero, suc, List, [], ◌∷◌, length, Option, Some, None, refl}
use Rattle.std.proofs.Common.{sym, ap}
use Rattle.std.proofs.Common.{subst, option_map, slice_get, slice_index_or, arith, ◌≤◌}
use Rattle.std.proofs.lemmas.Grind.{common_steps}
use Rattle.std.specs.List.{AllByRecursion, Contains}
use Rattle.std.proofs.lemmas.List.Elements.{All-contains, All-from_recursion}
use Rattle.std.proofs.lemmas.Option.{slice_get_within}
use Rattle.std.proofs.lemmas.Bool.{cases_lt}
use Rattle.vm_state.specs.declared.frame.Frame.{Frame}
use Rattle.vm_state.specs.declared.frame.Activity.{Activity}
use Rattle.vm_state.specs.declared.frame.Activity.TheVariants as activities
use Rattle.vm_state.specs.declared.initialization.Level.{Level}
use Rattle.semantics.specs.Bounds.{MayCall}
use Rattle.semantics.specs.Worlds.{World, Run, threads_from}
use Rattle.semantics.proofs.WavesLemmas.{Contains-nil}
use Rattle.program.specs.declared.class.Class.{Class}
use Rattle.program.specs.Programs.{IsProgram}
use Rattle.program.specs.Tables.{Tables, initializer_if, initializer_in, main_in, order_in}
use Rattle.machine.specs.Operations.{operation_at}
use Rattle.machine.specs.Linked.{program_of}
use Rattle.machine.proofs.LawsStaticLemmas.{IsClassIn}
use Rattle.machine.proofs.LinkedLemmas.{initializer_frame_is}
use Rattle.machine.proofs.ListLemmas.{right_of_pair}
use Rattle.use_graph.specs.Scopes.{bounds_of}
use Rattle.use_graph.proofs.ListLemmas.{one_of}
use Rattle.use_graph.proofs.ScopeTableLemmas.{table_is_bounded_lem}
use Rattle.audit.specs.Reach.{Initialization, MayReach, main, entry, called, needed, before, initializer}
use Rattle.audit.specs.Runs.{IsReachedActivity, RunsReached, StartsFrom, ThreadsRunReached}
use Rattle.audit.proofs.CallsLemmas.{scope_calls, scope_needs, main_declared}
use Rattle.audit.proofs.PlacesLemmas.{none_among}
use Rattle.audit.proofs.ThreadsLemmas.{IsClosed, Stack, run_stands, start_stands, stack_of}
use Rattle.use_graph.proofs.ScopeUsesLemmas.{initializer_declared}

past_rows : (rows : List (List ℕ)) (c : ℕ) → length rows ≤ c → slice_index_or rows c [] ≡ []
past_rows rows c h = grind (arith, common_steps)

module _ (P : Tables) (is : IsProgram P) (entries : List ℕ) where
  abbrev Begins : ℕ → Type 0
  Begins c = c < length P.classes → MayReach P entries (Initialization c)

  abbrev Runs : Activity → Type 0
  Runs a = IsReachedActivity P entries a

  -- a class that has an initializer, or something before it, is there
  given : (c m : ℕ) → initializer_in P c ≡ Some m → c < length P.classes
  given c m has = by (slice_get P.classes c) refl has
    where
      by : (o : Option Class) → slice_get P.classes c ≡ o → initializer_if o ≡ Some m → c < length P.classes
      by None there has = absurd cc
      by (Some k) there has = slice_get_within P.classes c k there

  start_calls : (c : ℕ) (b : Activity) → Contains entries c → (o : Option ℕ) → main_in P c ≡ o
      → option_map (activities.Method c) o ≡ Some b → Runs b
  start_calls c b among None has may = absurd cc
  start_calls c b among (Some m) has may =
      let same : activities.Method c m ≡ b = cc in
      subst Runs same (main among has (main_declared P is c m has))

  calls : (a b : Activity) (place : ℕ) → Runs a → MayCall (bounds_of P a place) b → Runs b
  calls (activities.Start c) b place runs may = start_calls c b runs (main_in P c) refl may.1
  calls (activities.Method d k) b place runs may =
      let (e, j, same, goes, there) = scope_calls P d k place b (operation_at P d k place) refl may in
      subst Runs (sym same) (called runs goes there)

  needs : (a : Activity) (place d : ℕ) → Runs a → (bounds_of P a place).needs ≡ Some d → Begins d
  needs (activities.Start c) place d runs need low =
      let same : c ≡ d = (let two : Some c ≡ Some d = need in cc) in
      entry (subst (Contains entries) same runs) low
  needs (activities.Method e k) place d runs need low =
      needed runs (scope_needs P e k place d (operation_at P e k place) refl need) low

  no_order : (c : ℕ) → length P.classes ≤ c → order_in P c ≡ []
  no_order c past = elim (cases_lt c (length P.orders)) [
    | inl small ↦ absurd (let (g, at) = one_of P.family c (omega (arith, is.order_count)) in
        let class = right_of_pair (IsClassIn P) P.family P.classes c g is.classes at in
        let low = slice_get_within P.classes c class.0 class.1 in omega arith)
    | inr beyond ↦ past_rows P.orders c beyond
  ]

  parents : (c p : ℕ) → Begins c → Contains (order_in P c) p → Begins p
  parents c p begins among low = elim (cases_lt c (length P.classes)) [
    | inl small ↦ before (begins small) among low
    | inr past ↦ absurd (Contains-nil p (subst (λ (l : List ℕ). Contains l p) (no_order c past) among))
  ]

  initializers : (c : ℕ) (f : Frame) → Begins c → (program_of P).initializer c ≡ Some f → Runs f.activity
  initializers c f begins has =
      let frame = initializer_frame_is P c f has in
      subst Runs (sym (ap (λ (g : Frame). g.activity) frame.is))
      (initializer (begins (given c frame.method frame.has)) frame.has
      (initializer_declared P c frame.method f frame.has has))

  closed : IsClosed (program_of P) (bounds_of P) Runs Begins
  closed = record { calls = calls; needs = needs; parents = parents; initializer = initializers }

  threads_of : (w : World) → StartsFrom P entries w → w.threads ≡ threads_from (program_of P) 0 entries
  threads_of w (inl same) = ap (λ (x : World). x.threads) same
  threads_of w (inr (I, same)) = ap (λ (x : World). x.threads) same

  run_of : (fs : List Frame) (f : Frame) → AllByRecursion (λ (g : Frame). Runs g.activity) fs → Contains fs f
      → Runs f.activity
  run_of fs f all among =
      All-contains (λ (g : Frame). Runs g.activity) fs f (All-from_recursion (λ (g : Frame). Runs g.activity) fs all)
      among

  abbrev Levels : List Level → Type 0
  Levels ls = Stack (program_of P) (bounds_of P) (table_is_bounded_lem P) Runs Begins closed ls

  under_of : (ls : List Level) (l : Level) → Levels ls → Contains ls l
      → Begins l.initialization.class × AllByRecursion (λ (g : Frame). Runs g.activity) l.under
  under_of [] l stack among = absurd (none_among l among)
  under_of (m ∷ ms) l stack (zero, small, at) =
      subst (λ (x : Level). Begins x.initialization.class × AllByRecursion (λ (g : Frame). Runs g.activity) x.under)
      at (stack.0.begins, stack.1)
  under_of (m ∷ ms) l stack (suc i, small, at) = under_of ms l stack.2 (i, omega arith, at)

  reached_in : (first last : World) (schedule : List ℕ) → StartsFrom P entries first
      → Run (program_of P) first schedule last → RunsReached P entries last
  reached_in first last schedule start run =
      let stands = run_stands (program_of P) (bounds_of P) (table_is_bounded_lem P) Runs Begins closed first last
      schedule (start_stands (program_of P) (bounds_of P) (table_is_bounded_lem P) Runs Begins closed first entries
      (threads_of first start) (λ c t among. among)) run in
      let stack = stack_of (program_of P) (bounds_of P) (table_is_bounded_lem P) Runs Begins closed last stands in
      record {
        frames = λ t fs ls at f on. elim on [
          | inl top ↦ run_of fs f (stack t fs ls at).0 top
          | inr (l, among, under) ↦ run_of l.under f (under_of ls l (stack t fs ls at).1 among).1 under
        ];
        initializations = λ t fs ls at l among. (under_of ls l (stack t fs ls at).1 among).0;
      }

pub threads_run_reached_lem : ThreadsRunReached
threads_run_reached_lem P is entries first last schedule start run =
    reached_in P is entries first last schedule start run
