-- In each world that a run leads to from a start, what runs and begins for a class is within bounds.
use Rattle.std.proofs.Common.{◌≡◌, ◌<◌, inl, inr, ℕ, zero, suc, ◌+◌, List, [], ◌∷◌, length, Option, Some}
use Rattle.std.proofs.Common.{None, ◌==◌, refl, sym, ap, subst, ◌∙◌, eqb-true, slice_get, get_or, unwrap_or}
use Rattle.std.proofs.lemmas.List.Elements.{All-contains, All-from_recursion}
use Rattle.std.proofs.lemmas.Option.{unwrap_or-slice_get}
use Rattle.vm_state.specs.declared.value.Maker.TheVariants.{Class}
use Rattle.vm_state.specs.declared.frame.Frame.{Frame}
use Rattle.vm_state.specs.declared.initialization.Level.{Level}
use Rattle.semantics.specs.Rows.{Result, Needs}
use Rattle.semantics.specs.Programs.{Program}
use Rattle.semantics.specs.Steps.{Thread, Going, Ended, After, step_thread}
use Rattle.semantics.specs.Worlds.{World, put_thread, step, Run, threads_from, lazy_start}
use Rattle.semantics.specs.Images.{image_start}
use Rattle.semantics.specs.Bounds.{Bounds, IsBounded, MayRun, IsUse}
use Rattle.semantics.specs.Soundness.{StandsOn, Highest, Under, IsBegunBy, StaysWithin, IsStart, RunsWithin}
use Rattle.vm_state.proofs.ListLemmas.{tested}
use Rattle.semantics.proofs.TestsLemmas.{from_some}
use Rattle.semantics.proofs.ThreadsLemmas.{no_thread, thread_at, put, step_at, going_within, thread_at-put}
use Rattle.semantics.proofs.WithinRowsLemmas.{Keeps, row_keeps}
use Rattle.semantics.proofs.WithinStacksLemmas as Stacks
use Rattle.semantics.proofs.WithinStacksLemmas.{States}

module _ (P : Program) (B : Bounds) where
  abbrev pub Bounded : World → Type 0
  Bounded w = (t : ℕ) → Stacks.Stands P B w.shared.states t (thread_at w t)

  -- ---- at the start

  threads_stand : (states : States) (t n : ℕ) (entries : List ℕ) (i : ℕ)
      → Stacks.Stands P B states t (get_or (threads_from P n entries) i no_thread)
  threads_stand states t n [] i = tt
  threads_stand states t n (c ∷ cs) zero = tt
  threads_stand states t n (c ∷ cs) (suc i) = threads_stand states t (n + 1) cs i

  start_bounded : (w : World) → IsStart P w → Bounded w
  start_bounded w (entries, inl is) t =
      subst (λ (x : World). Stacks.Stands P B x.shared.states t (thread_at x t)) (sym is)
      (threads_stand (lazy_start P entries).shared.states t 0 entries t)
  start_bounded w (entries, inr (I, is)) t =
      subst (λ (x : World). Stacks.Stands P B x.shared.states t (thread_at x t)) (sym is)
      (threads_stand (image_start P I entries).shared.states t 0 entries t)

  -- ---- after each step

  module _ (bounded : IsBounded P B) where
    step_bounded : (w last : World) (t : ℕ) → Bounded w → step P w t ≡ Some last → Bounded last
    unfolding step_thread
    step_bounded w last t h s = by_thread (thread_at w t) refl
      where
        stepped : put_thread w t (step_thread P t w.shared (thread_at w t)) ≡ Some last
        stepped = sym (step_at P w t) ∙ s

        by_after : (o : Option After) → step_thread P t w.shared (thread_at w t) ≡ o → t < length w.threads
            → Bounded last
        by_after None e within = (let clash : None ≡ Some last = rw e at stepped in cc)
        by_after (Some a) e within =
            let same : put w t a.shared a.thread ≡ last = from_some (rw e at stepped) in
            let follows : Stacks.Follows P B w.shared.states t a =
            Stacks.thread_stands P B t bounded w.shared (thread_at w t) (h t) a e in
            subst Bounded same (λ u. elim (tested (u == t)) [
              | inl q ↦ rw (thread_at-put w t u a.shared a.thread within, q, eqb-true u t q) follows.0
              | inr q ↦
                  rw (thread_at-put w t u a.shared a.thread within, q)
                  (Stacks.stands_keeps P B w.shared.states a.shared.states u (thread_at w u)
                  (λ c. follows.1 c u q) (h u))
            ])

        by_thread : (th : Thread) → thread_at w t ≡ th → Bounded last
        by_thread (Ended end) at = (let clash : None ≡ Some last = rw at at stepped in cc)
        by_thread (Going fs ls) at =
            by_after (step_thread P t w.shared (thread_at w t)) refl (going_within w t fs ls at)

    run_bounded : (first last : World) (schedule : List ℕ) → Bounded first → Run P first schedule last → Bounded last
    run_bounded first last [] h is = subst Bounded is h
    run_bounded first last (t ∷ ts) h (next, stepped, rest) =
        run_bounded next last ts (step_bounded first next t h stepped) rest

    -- ---- what it says of a world

    stack_of : (w : World) → Bounded w → (t : ℕ) (fs : List Frame) (ls : List Level)
        → slice_get w.threads t ≡ Some (Going fs ls) → Stacks.Tower P B w.shared.states t fs ls
    stack_of w h t fs ls at =
        let is : thread_at w t ≡ Going fs ls =
        sym (unwrap_or-slice_get w.threads t no_thread) ∙ ap (λ (o : Option Thread). unwrap_or o no_thread) at in
        subst (Stacks.Stands P B w.shared.states t) is (h t)

    frame_runs : (states : States) (t c : ℕ) (f : Frame) (fs : List Frame) (ls : List Level)
        → Stacks.Tower P B states t fs ls → StandsOn c f fs ls → MayRun P B c f.activity
    frame_runs states t c f fs ls h (Highest {l = l} within is) =
        subst (λ (k : ℕ). MayRun P B k f.activity) is
        (All-contains (λ (g : Frame). MayRun P B l.initialization.class g.activity) fs f
        (All-from_recursion (λ (g : Frame). MayRun P B l.initialization.class g.activity) fs h.0) within)
    frame_runs states t c f fs ls h (Under {l = l} {ls = ms} below) = frame_runs states t c f l.under ms h.2 below

    level_begins : (states : States) (t c d : ℕ) (fs : List Frame) (ls : List Level)
        → Stacks.Tower P B states t fs ls → IsBegunBy c d ls → IsUse P B c d
    level_begins states t c d fs ls h (Highest {l = l} {m = m} is of) = rw (sym is, sym of) h.1.begun
    level_begins states t c d fs ls h (Under {l = l} {ls = ms} below) =
        level_begins states t c d l.under ms h.2 below

    frame_needs : (w : World) (t : ℕ) (f : Frame) (fs : List Frame) (l : Level) (ls : List Level)
        → Stacks.Tower P B w.shared.states t (f ∷ fs) (l ∷ ls) → (d : ℕ) (r : Result)
        → Keeps P (B f.activity f.place) t (Class l.initialization.class) w.shared.states r → r ≡ Needs d
        → IsUse P B l.initialization.class d
    frame_needs w t f fs l ls h d r keeps is =
        let k = subst (Keeps P (B f.activity f.place) t (Class l.initialization.class) w.shared.states) is keeps in
        Stacks.may_need P B t bounded (l ∷ ls) f.activity f.place d h.0.0 k.0
        (Stacks.fresh_apart P B t bounded w.shared.states (f ∷ fs) (l ∷ ls) d h k.1)

    bounded_stays : (w : World) → Bounded w → StaysWithin P B w
    bounded_stays w h = record {
      frames = λ t fs ls at c f on. frame_runs w.shared.states t c f fs ls (stack_of w h t fs ls at) on;
      begins = λ t fs ls at c d by. level_begins w.shared.states t c d fs ls (stack_of w h t fs ls at) by;
      needs = λ t f fs l ls at d is.
          frame_needs w t f fs l ls (stack_of w h t (f ∷ fs) (l ∷ ls) at) d _
          (row_keeps P (B f.activity f.place) t (Class l.initialization.class) (P.row f) w.shared
          (bounded.row f)) is;
    }

pub runs_within_lem : RunsWithin
runs_within_lem P B bounded first last schedule start run =
    bounded_stays P B bounded last (run_bounded P B bounded first last schedule (start_bounded P B first start) run)
