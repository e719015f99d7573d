-- The frame of a class's initializer stands above that class's initialization, and nowhere else.
use Rattle.std.proofs.Common.{◌≡◌, ◌<◌, ℕ, Bool, true, false, inl, inr, List, [], ◌∷◌, length, Option, Some, None, ◌==◌}
use Rattle.std.proofs.Common.{refl, sym, ◌∙◌}
use Rattle.std.proofs.Common.{subst, eqb-true, eq-eqb}
use Rattle.vm_state.specs.declared.value.Name.{Name}
use Rattle.vm_state.specs.declared.value.Maker.{Maker}
use Rattle.vm_state.specs.declared.value.Maker.TheVariants as makers
use Rattle.vm_state.specs.declared.ends.FaultKind.TheVariants.{Fault}
use Rattle.vm_state.specs.declared.frame.Frame.{Frame}
use Rattle.vm_state.specs.declared.initialization.Initialization.{Initialization}
use Rattle.vm_state.specs.declared.initialization.Level.{Level}
use Rattle.vm_state.specs.declared.classes.Usability.{Usability}
use Rattle.vm_state.specs.declared.classes.Usability.TheVariants.{Ready, Fresh, Busy, Broken}
use Rattle.vm_state.specs.Statics.{usable}
use Rattle.vm_state.specs.SharedState.{SharedState, same_maker, pool_of, set_pool, set_region, with_field}
use Rattle.semantics.specs.Rows.{Outcome, Halt, Row, Ends, UseClass, ReadStatic, WriteStatic, AskClass, LookInto}
use Rattle.semantics.specs.Rows.{Change}
use Rattle.semantics.specs.Rows.{Make, UseMonitor, Print}
use Rattle.semantics.specs.Rows.{Result, Moved, Needs, Waits, lock_monitor, run_row}
use Rattle.vm_state.specs.SharedState.{monitor_of, with_monitor}
use Rattle.semantics.specs.Programs.{Program}
use Rattle.semantics.specs.Moves.{Left, Stand, Throw, Stop, left_in, unwound}
use Rattle.semantics.specs.Steps.{Thread, Going, Ended, After, maker_of, standing, settled, going_on, left_by}
use Rattle.semantics.specs.Steps.{instructed, fails, initializes}
use Rattle.semantics.specs.Steps.{passes, step_parents, step_initialization, step_thread}
use Rattle.semantics.specs.Worlds.{World, put_thread, step}
use Rattle.semantics.specs.Lawful.{OwnsOutcome, Fits, IsLawful}
use Rattle.semantics.specs.helpers.Lawful.{Owns}
use Rattle.vm_state.proofs.ListLemmas.{tested}
use Rattle.semantics.proofs.TestsLemmas.{from_some}
use Rattle.semantics.proofs.UsabilitiesLemmas.{used}
use Rattle.semantics.proofs.KnownNamesLemmas.{any, any-name, any-slots, any-frame}
use Rattle.vm_state.specs.Values.{name_of}
use Rattle.semantics.proofs.FrameMovesLemmas as FrameMoves
use Rattle.semantics.proofs.FrameMovesLemmas.{OwnsLeft}
use Rattle.semantics.proofs.LocksLemmas.{locked}
use Rattle.semantics.proofs.ThreadsLemmas.{thread_at, put, step_at, going_within, thread_at-put}

-- the one class whose initializer's frames may stand where this maker makes the objects
abbrev pub own_of : Maker → ℕ → Bool
own_of maker c = same_maker maker (makers.Class c)

abbrev pub OwnedAt : Program → ℕ → List Frame → List Level → Type 0
OwnedAt P t fs [] = Owns P (own_of (makers.Thread t)) fs
OwnedAt P t fs (l ∷ ls) = Owns P (own_of (makers.Class l.initialization.class)) fs × OwnedAt P t l.under ls

abbrev pub OwnedThread : Program → ℕ → Thread → Type 0
OwnedThread P t (Going fs ls) = OwnedAt P t fs ls
OwnedThread P t (Ended end) = Unit {0}

abbrev pub Owned : Program → World → Type 0
Owned P w = (t : ℕ) → OwnedThread P t (thread_at w t)

pub owned_top : (P : Program) (t : ℕ) (fs : List Frame) (ls : List Level) → OwnedAt P t fs ls
    → Owns P (own_of (maker_of t ls)) fs
owned_top P t fs [] h = h
owned_top P t fs (l ∷ ls) h = h.0

-- ---- a row leaves such frames

module _ (P : Program) (own : ℕ → Bool) (t : ℕ) (maker : Maker) where
  pub row_owns : (row : Row) (sh : SharedState) → Fits P any own row → (outcome : Outcome) (new : SharedState) →
      run_row t maker sh row ≡ Moved outcome new → OwnsOutcome P own outcome
  row_owns (Ends o) sh resp outcome new e = (let same : o ≡ outcome = cc in subst (OwnsOutcome P own) same resp.1)
  row_owns (UseClass c next) sh resp outcome new e = elim (used (usable t (sh.states c))) [
    | inl r ↦ row_owns (next true) sh (resp true) outcome new (rw r at e)
    | inr (inl r) ↦ (let clash : Needs c ≡ Moved outcome new = rw r at e in cc)
    | inr (inr (inl r)) ↦ (let clash : Waits ≡ Moved outcome new = rw r at e in cc)
    | inr (inr (inr r)) ↦ row_owns (next false) sh (resp false) outcome new (rw r at e)
  ]
  row_owns (ReadStatic c f next) sh resp outcome new e = elim (used (usable t (sh.states c))) [
    | inl r ↦ row_owns (next ((sh.regions c).fields f)) sh (resp _ (any-name (name_of ((sh.regions c).fields f))))
        outcome new (rw r at e)
    | inr (inl r) ↦ (let clash : Needs c ≡ Moved outcome new = rw r at e in cc)
    | inr (inr (inl r)) ↦ (let clash : Waits ≡ Moved outcome new = rw r at e in cc)
    | inr (inr (inr r)) ↦
        let halts : Moved (Halt Fault) sh ≡ Moved outcome new = rw r at e in
        let same : Halt Fault ≡ outcome = cc in
        subst (OwnsOutcome P own) same tt
  ]
  row_owns (WriteStatic c f v next) sh resp outcome new e = elim (used (usable t (sh.states c))) [
    | inl r ↦ row_owns next (set_region sh c (with_field (sh.regions c) f v)) resp.2 outcome new (rw r at e)
    | inr (inl r) ↦ (let clash : Needs c ≡ Moved outcome new = rw r at e in cc)
    | inr (inr (inl r)) ↦ (let clash : Waits ≡ Moved outcome new = rw r at e in cc)
    | inr (inr (inr r)) ↦
        let halts : Moved (Halt Fault) sh ≡ Moved outcome new = rw r at e in
        let same : Halt Fault ≡ outcome = cc in
        subst (OwnsOutcome P own) same tt
  ]
  row_owns (AskClass x next) sh resp outcome new e = row_owns (next _) sh (resp.1 _) outcome new e
  row_owns (LookInto x part next) sh resp outcome new e = row_owns (next _) sh (resp.1 _ (any-slots _)) outcome new e
  row_owns (Change x i v next) sh resp outcome new e = row_owns next _ resp.2 outcome new e
  row_owns (Make class slots next) sh resp outcome new e = row_owns (next _) _ (resp.1 _ refl) outcome new e
  row_owns (UseMonitor x enter next) sh resp outcome new e =
      elim (locked (lock_monitor t enter (monitor_of ((pool_of sh x.maker).at x.number)))) [
        | inl b ↦ (let clash : Waits ≡ Moved outcome new = rw b at e in cc)
        | inr p ↦
            row_owns (next p.0) (set_pool sh x.maker (with_monitor (pool_of sh x.maker) x.number p.1))
            (resp.1 p.0) outcome new (rw p.2 at e)
      ]
  row_owns (Print text next) sh resp outcome new e = row_owns next _ resp outcome new e

-- ---- the stack after a step

-- the stack below the topmost segment
abbrev pub OwnedUnder : Program → ℕ → List Level → Type 0
OwnedUnder P t [] = Unit {0}
OwnedUnder P t (l ∷ ls) = OwnedAt P t l.under ls

pub owned_under : (P : Program) (t : ℕ) (fs : List Frame) (ls : List Level) → OwnedAt P t fs ls → OwnedUnder P t ls
owned_under P t fs [] h = tt
owned_under P t fs (l ∷ ls) h = h.1

pub owned_standing : (P : Program) (t : ℕ) (fs : List Frame) (ls : List Level) → OwnedAt P t fs ls
    → OwnedThread P t (standing fs ls)
owned_standing P t [] [] h = tt
owned_standing P t [] (l ∷ ls) h = h
owned_standing P t (f ∷ fs) [] h = h
owned_standing P t (f ∷ fs) (l ∷ ls) h = h

module _ (P : Program) (lawful : IsLawful P) (t : ℕ) where
  owned_over : (fs : List Frame) (ls : List Level) → OwnedUnder P t ls → Owns P (own_of (maker_of t ls)) fs →
      OwnedThread P t (standing fs ls)
  owned_over fs [] b h = owned_standing P t fs [] h
  owned_over fs (l ∷ ls) b h = owned_standing P t fs (l ∷ ls) (h, b)

  settled_owned : (left : Left) (ls : List Level) → OwnedUnder P t ls → OwnsLeft P (own_of (maker_of t ls)) left →
      OwnedThread P t (settled left ls)
  settled_owned (Stand fs) ls b h = owned_over fs ls b h
  settled_owned (Throw x class) [] b h = tt
  settled_owned (Throw x class) (l ∷ ls) b h = (tt, b)
  settled_owned (Stop kind) ls b h = tt

  left_owned : (outcome : Outcome) (fs : List Frame) (ls : List Level) → OwnedAt P t fs ls →
      OwnsOutcome P (own_of (maker_of t ls)) outcome →
      OwnedThread P t (left_by P outcome fs ls)
  left_owned outcome fs ls at h =
      go (left_in outcome fs) (FrameMoves.left_owned P (own_of (maker_of t ls)) outcome fs h (owned_top P t fs ls at))
    where
      go : (left : Left) → OwnsLeft P (own_of (maker_of t ls)) left → OwnedThread P t (going_on P left fs ls)
      go (Stand new) k = owned_over new ls (owned_under P t fs ls at) k
      go (Throw x class) k =
          settled_owned (unwound P x class fs) ls (owned_under P t fs ls at)
          (FrameMoves.unwound_owned P (own_of (maker_of t ls)) x class fs (owned_top P t fs ls at))
      go (Stop kind) k = tt

  abbrev Leaves : List Level → Result → Type 0
  Leaves ls r = (outcome : Outcome) (new : SharedState) → r ≡ Moved outcome new
      → OwnsOutcome P (own_of (maker_of t ls)) outcome

  instructed_owned : (sh : SharedState) (fs : List Frame) (ls : List Level) (r : Result) → OwnedAt P t fs ls
      → Leaves ls r →
      (a : After) → instructed P sh t fs ls r ≡ Some a → OwnedThread P t a.thread
  instructed_owned sh fs ls (Moved outcome new) at o a e =
      subst (λ (b : After). OwnedThread P t b.thread) (from_some e) (left_owned outcome fs ls at (o outcome new refl))
  instructed_owned sh fs ls (Needs c) at o a e = subst (λ (b : After). OwnedThread P t b.thread) (from_some e) (tt, at)
  instructed_owned sh fs ls Waits at o a e = cc

  fails_owned : (c : ℕ) (fs : List Frame) (ls : List Level) (r : Result) → OwnedAt P t fs ls → Leaves ls r →
      (a : After) → fails P c fs ls r ≡ Some a → OwnedThread P t a.thread
  fails_owned c fs ls (Moved outcome new) at o a e =
      subst (λ (b : After). OwnedThread P t b.thread) (from_some e) (left_owned outcome fs ls at (o outcome new refl))
  fails_owned c fs ls (Needs d) at o a e = cc
  fails_owned c fs ls Waits at o a e = cc

  initialization_owned : (sh : SharedState) (e : Initialization) (under : List Frame) (ls : List Level)
      → OwnedAt P t under ls →
      (o : Option Name) (a : After) → step_initialization P sh t e under ls o ≡ Some a → OwnedThread P t a.thread
  initialization_owned sh e under ls h (Some x) a s =
      fails_owned e.class under ls (run_row t (makers.Class e.class) sh (P.failing e.class x)) h
      (row_owns P (own_of (maker_of t ls)) t (makers.Class e.class) (P.failing e.class x) sh
      (lawful.failing any (own_of (maker_of t ls)) e.class x refl)) a s
  initialization_owned sh e under ls h None a s = by_left e.left e.begun s
    where
      as_after : (b : After) → OwnedThread P t b.thread → b ≡ a → OwnedThread P t a.thread
      as_after b k q = subst (λ (y : After). OwnedThread P t y.thread) q k

      by_start : (o : Option Frame) → P.initializer e.class ≡ o → (b : After) → initializes sh e under ls o ≡ b
          → OwnedThread P t b.thread
      by_start None ec b q = subst (λ (y : After). OwnedThread P t y.thread) q (owned_standing P t under ls h)
      by_start (Some g) ec b q = subst (λ (y : After). OwnedThread P t y.thread) q ((own_frame, tt), h)
        where
          own_frame : (d : ℕ) → P.initializes g.activity ≡ Some d → own_of (makers.Class e.class) d ≡ true
          own_frame d of_d = eq-eqb e.class d (sym (lawful.initializer_owner e.class d g ec of_d))

      by_use : (p : ℕ) (ps : List ℕ) (u : Usability) → passes P sh t e under ls p ps u ≡ Some a
          → OwnedThread P t a.thread
      by_use p ps Ready q = as_after _ (tt, h) (from_some q)
      by_use p ps Fresh q = as_after _ (tt, (tt, h)) (from_some q)
      by_use p ps Busy q = cc
      by_use p ps Broken q =
          fails_owned e.class under ls (run_row t (makers.Class e.class) sh (P.orphaned e.class)) h
          (row_owns P (own_of (maker_of t ls)) t (makers.Class e.class) (P.orphaned e.class) sh
          (lawful.orphaned any (own_of (maker_of t ls)) e.class)) a q

      by_left : (left : List ℕ) (b : Bool) → step_parents P sh t e under ls left b ≡ Some a → OwnedThread P t a.thread
      by_left (p ∷ ps) b q = by_use p ps (usable t (sh.states p)) q
      by_left [] false q = by_start (P.initializer e.class) refl a (from_some q)
      by_left [] true q = as_after _ (owned_standing P t under ls h) (from_some q)

  thread_owned : (sh : SharedState) (th : Thread) (a : After) → OwnedThread P t th → step_thread P t sh th ≡ Some a →
      OwnedThread P t a.thread
  unfolding step_thread
  thread_owned sh (Ended end) a h s = cc
  thread_owned sh (Going [] []) a h s = cc
  thread_owned sh (Going [] (l ∷ ls)) a h s =
      initialization_owned sh l.initialization l.under ls h.1 l.initialization.pending a s
  thread_owned sh (Going (f ∷ fs) ls) a h s =
      instructed_owned sh (f ∷ fs) ls (run_row t (maker_of t ls) sh (P.row f)) h
      (row_owns P (own_of (maker_of t ls)) t (maker_of t ls) (P.row f) sh
      (lawful.row any (own_of (maker_of t ls)) f (any-frame f) (owned_top P t (f ∷ fs) ls h).0)) a s

  -- ---- and so it stays

  pub owned_step : (w w' : World) → Owned P w → step P w t ≡ Some w' → Owned P w'
  unfolding step_thread
  owned_step w w' owned s = by_thread (thread_at w t) refl
    where
      stepped : put_thread w t (step_thread P t w.shared (thread_at w t)) ≡ Some w'
      stepped = sym (step_at P w t) ∙ s

      by_after : (o : Option After) → step_thread P t w.shared (thread_at w t) ≡ o → t < length w.threads → Owned P w'
      by_after None e h = (let clash : None ≡ Some w' = rw e at stepped in cc)
      by_after (Some a) e h =
          let same : put w t a.shared a.thread ≡ w' = from_some (rw e at stepped) in
          subst (Owned P) same (λ u. elim (tested (u == t)) [
            | inl q ↦ rw (thread_at-put w t u a.shared a.thread h, q, eqb-true u t q)
                (thread_owned w.shared (thread_at w t) a (owned t) e)
            | inr q ↦ rw (thread_at-put w t u a.shared a.thread h, q) (owned u)
          ])

      by_thread : (th : Thread) → thread_at w t ≡ th → Owned P w'
      by_thread (Ended end) at = (let clash : None ≡ Some w' = rw at at stepped in cc)
      by_thread (Going fs ls) at = by_after (step_thread P t w.shared (thread_at w t)) refl (going_within w t fs ls at)
