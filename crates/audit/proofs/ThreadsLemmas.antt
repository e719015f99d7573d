-- What is closed under calls, needs and initialization holds of all that threads run and initialize.
use Rattle.std.proofs.Common.{◌≡◌, ◌<◌, inl, inr, ℕ, zero, suc, ◌+◌, Bool, true, false, List, [], ◌∷◌, length, Option}
use Rattle.std.proofs.Common.{Some, None, ◌==◌, refl, sym, ap, subst, ◌∙◌, slice_get, get_or, unwrap_or}
use Rattle.std.specs.List.{AllByRecursion, Contains}
use Rattle.std.proofs.lemmas.Option.{unwrap_or-slice_get}
use Rattle.vm_state.specs.declared.value.Name.{Name}
use Rattle.vm_state.specs.declared.value.Maker.TheVariants as makers
use Rattle.vm_state.specs.declared.frame.Frame.{Frame}
use Rattle.vm_state.specs.declared.frame.Activity.{Activity}
use Rattle.vm_state.specs.declared.initialization.Initialization.{Initialization}
use Rattle.vm_state.specs.declared.initialization.Level.{Level}
use Rattle.vm_state.specs.declared.classes.Usability.{Usability}
use Rattle.vm_state.specs.declared.classes.Usability.TheVariants.{Ready, Fresh, Busy, Broken}
use Rattle.vm_state.specs.Statics.{usable}
use Rattle.vm_state.specs.SharedState.{SharedState}
use Rattle.semantics.specs.Rows.{Result, Moved, Needs, Waits, run_row}
use Rattle.semantics.specs.Programs.{Program}
use Rattle.semantics.specs.Moves.{Left, Stand, Throw, Stop, left_in, unwound}
use Rattle.semantics.specs.Steps.{Thread, Going, Ended, After, maker_of, standing, settled, going_on}
use Rattle.semantics.specs.Steps.{begins, instructed, fails, initializes, on}
use Rattle.semantics.specs.Steps.{passes, step_parents, step_initialization, step_thread}
use Rattle.semantics.specs.Worlds.{World, put_thread, step, Run, threads_from}
use Rattle.semantics.specs.Bounds.{Bounds, MayCall, nothing, IsBounded}
use Rattle.vm_state.proofs.ListLemmas.{tested}
use Rattle.semantics.proofs.TestsLemmas.{from_some}
use Rattle.semantics.proofs.ThreadsLemmas.{no_thread, thread_at, put, step_at, going_within, thread_at-put}
use Rattle.semantics.proofs.WavesLemmas.{Contains-first, Contains-later}
use Rattle.semantics.proofs.WithinRowsLemmas.{Keeps, row_keeps, LeftHave, unwound_has, left_has}

-- What is closed: activities that run, and classes that are initialized.
pub record IsClosed (P : Program) (B : Bounds) (Runs : Activity → Type 0) (Begins : ℕ → Type 0) : Type 0 where
  pub calls : (a b : Activity) (place : ℕ) → Runs a → MayCall (B a place) b → Runs b
  pub needs : (a : Activity) (place d : ℕ) → Runs a → (B a place).needs ≡ Some d → Begins d
  pub parents : (c p : ℕ) → Begins c → Contains (P.parents c) p → Begins p
  pub initializer : (c : ℕ) (f : Frame) → Begins c → P.initializer c ≡ Some f → Runs f.activity

module _ (P : Program) (B : Bounds) (bounded : IsBounded P B) (Runs : Activity → Type 0) (Begins : ℕ → Type 0)
    (closed : IsClosed P B Runs Begins) where
  abbrev pub AllRun : List Frame → Type 0
  AllRun fs = AllByRecursion (λ (f : Frame). Runs f.activity) fs

  -- an initialization, of which some parents are left
  pub record Rises (e : Initialization) : Type 0 where
    pub begins : Begins e.class
    pub parents : (p : ℕ) → Contains e.left p → Contains (P.parents e.class) p

  abbrev pub Stack : List Level → Type 0
  Stack [] = Unit {0}
  Stack (l ∷ ls) = Rises l.initialization × AllRun l.under × Stack ls

  abbrev pub Stands : Thread → Type 0
  Stands (Going fs ls) = AllRun fs × Stack ls
  Stands (Ended end) = Unit {0}

  over : (fs : List Frame) (ls : List Level) → AllRun fs → Stack ls → Stands (standing fs ls)
  over [] [] r s = tt
  over [] (l ∷ ls) r s = (tt, s)
  over (f ∷ fs) ls r s = (r, s)

  settled_stands : (left : Left) (ls : List Level) → LeftHave Runs left → Stack ls → Stands (settled left ls)
  settled_stands (Stand fs) ls h s = over fs ls h s
  settled_stands (Throw x class) [] h s = tt
  settled_stands (Throw x class) (l ∷ ls) h s =
      (tt, (record { begins = s.0.begins; parents = s.0.parents }, s.1, s.2))
  settled_stands (Stop kind) ls h s = tt

  going_stands : (left : Left) (fs : List Frame) (ls : List Level) → AllRun fs → Stack ls → LeftHave Runs left
      → Stands (going_on P left fs ls)
  going_stands (Stand new) fs ls r s h = over new ls h s
  going_stands (Throw x class) fs ls r s h =
      settled_stands (unwound P x class fs) ls (unwound_has Runs P x class fs r) s
  going_stands (Stop kind) fs ls r s h = tt

  begins_stands : (sh : SharedState) (t d : ℕ) (fs : List Frame) (ls : List Level) → AllRun fs → Stack ls → Begins d
      → Stands (begins P sh t d fs ls).thread
  begins_stands sh t d fs ls r s begin = (tt, (record { begins = begin; parents = λ p is. is }, r, s))

  abbrev Follows : Option After → Type 0
  Follows o = (a : After) → o ≡ Some a → Stands a.thread

  of_after : (b : After) → Stands b.thread → Follows (Some b)
  of_after b h a q = subst (λ (x : After). Stands x.thread) (from_some q) h

  -- ---- an instruction

  instructed_stands : (sh : SharedState) (t : ℕ) (f : Frame) (fs : List Frame) (ls : List Level) → AllRun (f ∷ fs)
      → Stack ls → (r : Result)
      → Keeps P (B f.activity f.place) t (maker_of t ls) sh.states r → Follows (instructed P sh t (f ∷ fs) ls r)
  instructed_stands sh t f fs ls r s (Moved outcome new) keeps a q =
      of_after _ (going_stands (left_in outcome (f ∷ fs)) (f ∷ fs) ls r s
      (left_has Runs (B f.activity f.place) (λ b may. closed.calls f.activity b f.place r.0 may) outcome (f ∷ fs)
      keeps.0 r)) a q
  instructed_stands sh t f fs ls r s (Needs d) keeps a q =
      of_after _ (begins_stands sh t d (f ∷ fs) ls r s (closed.needs f.activity f.place d r.0 keeps.0)) a q
  instructed_stands sh t f fs ls r s Waits keeps a q = cc

  -- ---- the procedure

  fails_stand : (sh : SharedState) (t c : ℕ) (under : List Frame) (ls : List Level) → AllRun under → Stack ls
      → (r : Result) → Keeps P nothing t (makers.Class c) sh.states r → Follows (fails P c under ls r)
  fails_stand sh t c under ls r s (Moved outcome new) keeps a q =
      of_after _ (going_stands (left_in outcome under) under ls r s
      (left_has Runs nothing (λ b may. (let no : None ≡ Some b = may.1 in absurd cc)) outcome under keeps.0 r)) a q
  fails_stand sh t c under ls r s (Needs d) keeps a q = cc
  fails_stand sh t c under ls r s Waits keeps a q = cc

  initializes_stand : (sh : SharedState) (e : Initialization) (under : List Frame) (ls : List Level) → Rises e
      → AllRun under → Stack ls → (o : Option Frame) → P.initializer e.class ≡ o
      → Stands (initializes sh e under ls o).thread
  initializes_stand sh e under ls top r s None is = over under ls r s
  initializes_stand sh e under ls top r s (Some f) is = (
    (closed.initializer e.class f top.begins is, tt),
    (record { begins = top.begins; parents = top.parents }, r, s),
  )

  passes_stand : (sh : SharedState) (t : ℕ) (e : Initialization) (under : List Frame) (ls : List Level) → Rises e
      → AllRun under → Stack ls → (p : ℕ) (ps : List ℕ) → e.left ≡ p ∷ ps → (u : Usability)
      → Follows (passes P sh t e under ls p ps u)
  passes_stand sh t e under ls top r s p ps left Ready a q =
      of_after _ (
        tt,
        (
          record {
            begins = top.begins;
            parents = λ k at. top.parents k
                (subst (λ (ks : List ℕ). Contains ks k) (sym left) (Contains-later p k ps at));
          },
          r,
          s,
        ),
      ) a q
  passes_stand sh t e under ls top r s p ps left Fresh a q =
      of_after _ (begins_stands sh t p [] (on e under ∷ ls) tt (top, r, s)
      (closed.parents e.class p top.begins (top.parents p
      (subst (λ (ks : List ℕ). Contains ks p) (sym left) (Contains-first p ps))))) a q
  passes_stand sh t e under ls top r s p ps left Busy a q = cc
  passes_stand sh t e under ls top r s p ps left Broken a q =
      fails_stand sh t e.class under ls r s (run_row t (makers.Class e.class) sh (P.orphaned e.class))
      (row_keeps P nothing t (makers.Class e.class) (P.orphaned e.class) sh (bounded.orphaned e.class)) a q

  parents_stand : (sh : SharedState) (t : ℕ) (e : Initialization) (under : List Frame) (ls : List Level) → Rises e
      → AllRun under → Stack ls → (left : List ℕ) → e.left ≡ left → (begun : Bool)
      → Follows (step_parents P sh t e under ls left begun)
  parents_stand sh t e under ls top r s (p ∷ ps) left begun a q =
      passes_stand sh t e under ls top r s p ps left (usable t (sh.states p)) a q
  parents_stand sh t e under ls top r s [] left false a q =
      of_after _ (initializes_stand sh e under ls top r s (P.initializer e.class) refl) a q
  parents_stand sh t e under ls top r s [] left true a q = of_after _ (over under ls r s) a q

  initialization_stands : (sh : SharedState) (t : ℕ) (e : Initialization) (under : List Frame) (ls : List Level)
      → Rises e → AllRun under → Stack ls → (o : Option Name) → Follows (step_initialization P sh t e under ls o)
  initialization_stands sh t e under ls top r s (Some x) a q =
      fails_stand sh t e.class under ls r s (run_row t (makers.Class e.class) sh (P.failing e.class x))
      (row_keeps P nothing t (makers.Class e.class) (P.failing e.class x) sh (bounded.failing e.class x)) a q
  initialization_stands sh t e under ls top r s None a q =
      parents_stand sh t e under ls top r s e.left refl e.begun a q

  -- ---- one step

  thread_stands : (t : ℕ) (sh : SharedState) (th : Thread) → Stands th → Follows (step_thread P t sh th)
  unfolding step_thread
  thread_stands t sh (Ended end) h a q = cc
  thread_stands t sh (Going [] []) h a q = cc
  thread_stands t sh (Going [] (l ∷ ls)) h a q =
      initialization_stands sh t l.initialization l.under ls h.1.0 h.1.1 h.1.2 l.initialization.pending a q
  thread_stands t sh (Going (f ∷ fs) ls) h a q =
      instructed_stands sh t f fs ls h.0 h.1 (run_row t (maker_of t ls) sh (P.row f))
      (row_keeps P (B f.activity f.place) t (maker_of t ls) (P.row f) sh (bounded.row f)) a q

  -- ---- worlds

  abbrev pub AllStand : World → Type 0
  AllStand w = (t : ℕ) → Stands (thread_at w t)

  step_stands : (w last : World) (t : ℕ) → AllStand w → step P w t ≡ Some last → AllStand last
  unfolding step_thread
  step_stands w last t h s = by_thread (thread_at w t) refl
    where
      stepped : put_thread w t (step_thread P t w.shared (thread_at w t)) ≡ Some last
      stepped = sym (step_at P w t) ∙ s

      by_after : (o : Option After) → step_thread P t w.shared (thread_at w t) ≡ o → t < length w.threads
          → AllStand last
      by_after None e within = (let clash : None ≡ Some last = rw e at stepped in absurd cc)
      by_after (Some a) e within =
          let same : put w t a.shared a.thread ≡ last = from_some (rw e at stepped) in
          subst AllStand same (λ u. elim (tested (u == t)) [
            | inl q ↦
                rw (thread_at-put w t u a.shared a.thread within, q)
                (thread_stands t w.shared (thread_at w t) (h t) a e)
            | inr q ↦ rw (thread_at-put w t u a.shared a.thread within, q) (h u)
          ])

      by_thread : (th : Thread) → thread_at w t ≡ th → AllStand last
      by_thread (Ended end) at = (let clash : None ≡ Some last = rw at at stepped in absurd cc)
      by_thread (Going fs ls) at =
          by_after (step_thread P t w.shared (thread_at w t)) refl (going_within w t fs ls at)

  pub run_stands : (first last : World) (schedule : List ℕ) → AllStand first → Run P first schedule last
      → AllStand last
  run_stands first last [] h is = subst AllStand is h
  run_stands first last (t ∷ ts) h (next, stepped, rest) =
      run_stands next last ts (step_stands first next t h stepped) rest

  -- ---- at the start

  threads_stand : (n : ℕ) (entries : List ℕ) → ((c t : ℕ) → Contains entries c → Runs (P.start c t).activity) → (i : ℕ)
      → Stands (get_or (threads_from P n entries) i no_thread)
  threads_stand n [] runs i = tt
  threads_stand n (c ∷ cs) runs zero = ((runs c n (Contains-first c cs), tt), tt)
  threads_stand n (c ∷ cs) runs (suc i) =
      threads_stand (n + 1) cs (λ e t at. runs e t (Contains-later c e cs at)) i

  pub start_stands : (w : World) (entries : List ℕ) → w.threads ≡ threads_from P 0 entries
      → ((c t : ℕ) → Contains entries c → Runs (P.start c t).activity) → AllStand w
  start_stands w entries is runs t =
      subst (λ (ths : List Thread). Stands (get_or ths t no_thread)) (sym is) (threads_stand 0 entries runs t)

  -- ---- what it says of a stack

  pub stack_of : (w : World) → AllStand w → (t : ℕ) (fs : List Frame) (ls : List Level)
      → slice_get w.threads t ≡ Some (Going fs ls) → AllRun fs × Stack ls
  stack_of w h t fs ls at =
      let is : thread_at w t ≡ Going fs ls =
      sym (unwrap_or-slice_get w.threads t no_thread) ∙ ap (λ (o : Option Thread). unwrap_or o no_thread) at in
      subst Stands is (h t)
