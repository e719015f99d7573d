-- The threads of a world, by their numbers: a number of no thread counts as one that returned.
use Rattle.std.proofs.Common.{◌≡◌, ◌<◌, ℕ, inl, inr, List, length, map, Option, Some, None, ◌==◌, if◌then◌else◌, refl}
use Rattle.std.proofs.Common.{sym, ap, ◌∙◌}
use Rattle.std.proofs.Common.{slice_get, slice_set, get_or, unwrap_or, option_map}
use Rattle.std.proofs.lemmas.List.{map-set}
use Rattle.std.proofs.Math.Seq.{map-set_same}
use Rattle.std.proofs.lemmas.Option.{slice_get_within, slice_get-map, unwrap_or-slice_get}
use Rattle.vm_state.proofs.ListLemmas.{get_or-slice_set}
use Rattle.vm_state.specs.declared.ends.End.TheVariants.{Returned}
use Rattle.vm_state.specs.declared.frame.Frame.{Frame}
use Rattle.vm_state.specs.declared.initialization.Level.{Level}
use Rattle.vm_state.specs.SharedState.{SharedState}
use Rattle.semantics.specs.Programs.{Program}
use Rattle.semantics.specs.Steps.{Thread, Going, Ended, step_thread}
use Rattle.semantics.specs.Worlds.{World, put_thread, step_of, step}
use Rattle.semantics.specs.Images.{Image}
use Rattle.semantics.specs.Erasure.{cut_thread, IsErasedState, IsErased}
use Rattle.semantics.proofs.BranchesLemmas.{none_or_some}

abbrev pub no_thread : Thread
no_thread = Ended Returned

abbrev pub thread_at : World → ℕ → Thread
thread_at w t = get_or w.threads t no_thread

abbrev pub put : World → ℕ → SharedState → Thread → World
put w t sh th = record { shared = sh; threads = slice_set w.threads t th }

-- a thread that is not there has no step, as one that ended has none
pub step_at : (P : Program) (w : World) (t : ℕ) → step P w t ≡ put_thread w t (step_thread P t w.shared (thread_at w t))
unfolding step_thread
step_at P w t = go (slice_get w.threads t) ∙ ap (λ (th : Thread). put_thread w t (step_thread P t w.shared th))
    (unwrap_or-slice_get w.threads t no_thread)
  where
    go : (o : Option Thread) → step_of P w t o ≡ put_thread w t (step_thread P t w.shared (unwrap_or o no_thread))
    go None = refl
    go (Some th) = refl

pub going_within : (w : World) (t : ℕ) (fs : List Frame) (ls : List Level) → thread_at w t ≡ Going fs ls
    → t < length w.threads
going_within w t fs ls at = elim (none_or_some (slice_get w.threads t)) [
  | inl n ↦
      let ended : unwrap_or (slice_get w.threads t) no_thread ≡ no_thread = rw n refl in
      let clash : Ended Returned ≡ Going fs ls = sym ended ∙ (unwrap_or-slice_get w.threads t no_thread ∙ at) in
      cc
  | inr s ↦ slice_get_within w.threads t s.0 s.1
]

pub thread_at-put : (w : World) (t u : ℕ) (sh : SharedState) (th : Thread) → t < length w.threads →
    thread_at (put w t sh th) u ≡ (if u == t then th else thread_at w u)
thread_at-put w t u sh th h = get_or-slice_set w.threads t u th no_thread h

-- ---- erased

pub thread_at-erased : (I : Image) (w v : World) → IsErased I w v → (t : ℕ)
    → thread_at v t ≡ cut_thread I (thread_at w t)
thread_at-erased I w v erased t =
    ap (λ (ts : List Thread). get_or ts t no_thread) erased.threads
    ∙ (sym (unwrap_or-slice_get (map (cut_thread I) w.threads) t no_thread)
    ∙ (ap (λ (o : Option Thread). unwrap_or o no_thread) (slice_get-map (cut_thread I) w.threads t)
    ∙ (go (slice_get w.threads t) ∙ ap (cut_thread I) (unwrap_or-slice_get w.threads t no_thread))))
  where
    go : (o : Option Thread) → unwrap_or (option_map (cut_thread I) o) no_thread ≡ cut_thread I (unwrap_or o no_thread)
    go None = refl
    go (Some th) = refl

-- a step that the image does not make
pub erased-stays : (I : Image) (w v : World) (t : ℕ) (sh : SharedState) (th : Thread) → IsErased I w v
    → IsErasedState I sh v.shared →
    cut_thread I th ≡ cut_thread I (thread_at w t) → IsErased I (put w t sh th) v
erased-stays I w v t sh th erased shared same = record {
  shared = shared;
  threads = erased.threads ∙ sym (map-set_same (cut_thread I) w.threads t th no_thread same);
}

-- a step that both make
pub erased-both : (I : Image) (w v : World) (t : ℕ) (sh sv : SharedState) (th th' : Thread) → IsErased I w v
    → IsErasedState I sh sv →
    th' ≡ cut_thread I th → IsErased I (put w t sh th) (put v t sv th')
erased-both I w v t sh sv th th' erased shared same = record {
  shared = shared;
  threads =
      ap (λ (ts : List Thread). slice_set ts t th') erased.threads
      ∙ (ap (slice_set (map (cut_thread I) w.threads) t) same ∙ sym (map-set (cut_thread I) w.threads t th));
}
