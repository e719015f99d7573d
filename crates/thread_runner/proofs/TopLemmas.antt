-- Frames that are put on callers and taken off again.
use Rattle.std.proofs.Common.{◌≡◌, ℕ, zero, suc, ◌+◌, ◌++◌, List, [], ◌∷◌, Some, refl, sym, ap, ◌∙◌}
use Rattle.std.proofs.Common.{arith, drop, append_assoc, slice_get, Ok, Err}
use Rattle.std.specs.Prelude.{reverse}
use Rattle.std.proofs.lemmas.List.{reverse-append}
use Rattle.vm_state.specs.declared.frame.Frame.{Frame}
use Rattle.vm_state.specs.Segments.{callers_of, first_frame}
use Rattle.std.specs.Prelude.{IfOk, OnErr}
use Rattle.std.specs.declared.result.Result.{Result}
use Rattle.vm_state.specs.declared.initialization.Level.{Level}
use Rattle.semantics.specs.Steps.{Going, Thread}
use Rattle.semantics.specs.Worlds.{World}
use Rattle.init_engine.specs.Stacks.{with_thread}
use Rattle.init_engine.proofs.SetLemmas.{get_set, set_same}
use Rattle.thread_runner.proofs.UnsharedLemmas.{set_twice}

pub callers_drop : (i : ℕ) (xs : List Frame) → callers_of (drop i xs) ≡ drop (i + 1) xs
callers_drop zero [] = refl
callers_drop zero (x ∷ xs) = refl
callers_drop (suc i) [] = let e : suc i + 1 ≡ suc (i + 1) = omega arith in sym (ap (λ k. drop k []) e)
callers_drop (suc i) (x ∷ xs) =
    let e : suc i + 1 ≡ suc (i + 1) = omega arith in callers_drop i xs ∙ sym (ap (λ k. drop k (x ∷ xs)) e)

pub popped : (xs : List Frame) (f : Frame) → Some f ≡ first_frame xs → xs ≡ f ∷ callers_of xs
popped [] f h = absurd cc
popped (x ∷ xs) f h = let e : x ≡ f = cc in ap (λ y. y ∷ xs) e

-- one more goes from a list to the other
pub turns_one : (f : Frame) (xs ys : List Frame) → reverse xs ++ (f ∷ ys) ≡ reverse (f ∷ xs) ++ ys
turns_one f xs ys =
    sym (ap (λ l. l ++ ys) (reverse-append (f ∷ []) xs) ∙ append_assoc (reverse xs) (f ∷ []) ys)

pub drops_one : (n : ℕ) (f : Frame) (xs : List Frame) → drop (n + 1) (f ∷ xs) ≡ drop n xs
drops_one n f xs = let e : n + 1 ≡ suc n = omega arith in ap (λ k. drop k (f ∷ xs)) e

-- ---- the world with another stack of a thread, and with yet another

module _ (w : World) (t : ℕ) (first : Thread) (at : slice_get w.threads t ≡ Some first) where
  -- the world with this stack
  abbrev pub Has : World → Thread → Type 0
  Has v a = v ≡ with_thread w t a

  pub stands_now : (v : World) (a : Thread) → Has v a → slice_get v.threads t ≡ Some a
  stands_now v a has = ap (λ (x : World). slice_get x.threads t) has ∙ get_set w.threads t first a at

  pub has_next : (v u : World) (a b : Thread) → Has v a → u ≡ with_thread v t b → Has u b
  has_next v u a b has next =
      next ∙ (ap (λ (x : World). with_thread x t b) has
      ∙ ap (λ (ts : List Thread). record { shared = w.shared; threads = ts }) (set_twice w.threads t a b))

  pub has_back : (u : World) → Has u first → u ≡ w
  has_back u has =
      has ∙ sym (ap (λ (ts : List Thread). record { shared = w.shared; threads = ts }) (set_same w.threads t first at))

-- ---- frames of a thread that were taken out, changed, and put in again

module _ (w m n : World) (t : ℕ) (f : Frame) (fs : List Frame) (ls : List Level)
    (at : slice_get w.threads t ≡ Some (Going (f ∷ fs) ls)) (out : m ≡ with_thread w t (Going [] [])) where
  pub empty_there : slice_get m.threads t ≡ Some (Going [] [])
  empty_there = stands_now w t (Going (f ∷ fs) ls) at m (Going [] []) out

  pub in_again : (b : Thread) → n ≡ with_thread m t b → n ≡ with_thread w t b
  in_again b back = has_next w t (Going (f ∷ fs) ls) at m n (Going [] []) b out back

  pub as_before : n ≡ with_thread m t (Going (f ∷ fs) ls) → n ≡ w
  as_before back = has_back w t (Going (f ∷ fs) ls) at n (in_again (Going (f ∷ fs) ls) back)

  pub put_if : {X E : Type 0} (r : Result X E) (top : List Frame) (b : Thread) → n ≡ with_thread m t b
      → IfOk r (λ u. b ≡ Going (top ++ fs) ls) → IfOk r (λ u. n ≡ with_thread w t (Going (top ++ fs) ls))
  put_if (Ok u) top b back is = in_again (Going (top ++ fs) ls) (back ∙ ap (with_thread m t) is)
  put_if (Err e) top b back is = tt

  pub same_if : {X E : Type 0} (r : Result X E) (b : Thread) → n ≡ with_thread m t b
      → OnErr r (b ≡ Going (f ∷ fs) ls) → OnErr r (n ≡ w)
  same_if (Ok u) b back is = tt
  same_if (Err e) b back is = as_before (back ∙ ap (with_thread m t) is)
