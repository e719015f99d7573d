-- Runs from an image and from that image without some objects: they go step by step alike, and show the same.
use Rattle.std.proofs.Common.{◌≡◌, ◌≤◌, ℕ, zero, suc, ◌+◌, Bool, true, false, inl, inr, List, [], ◌∷◌, Option, Some}
use Rattle.std.proofs.Common.{None, map, refl}
use Rattle.std.proofs.Common.{sym, ap, ◌∙◌, subst, slice_get, slice_set, le-ltb, arith}
use Rattle.std.specs.List.{AllByRecursion}
use Rattle.vm_state.specs.declared.value.Maker.TheVariants.{Class, Thread}
use Rattle.vm_state.specs.declared.ends.Ending.{Ending}
use Rattle.vm_state.specs.declared.object.Object.{Object}
use Rattle.vm_state.specs.Output.{Print}
use Rattle.vm_state.specs.SharedState.{SharedState}
use Rattle.semantics.specs.Programs.{Program}
use Rattle.semantics.specs.Steps as steps
use Rattle.semantics.specs.Steps.{After, step_thread}
use Rattle.semantics.specs.Worlds.{World, put_thread, step_of, step, Run, ending, seen, Observation, Shows}
use Rattle.semantics.specs.Worlds.{threads_from}
use Rattle.semantics.specs.Images.{Image, image_start}
use Rattle.semantics.specs.Lawful.{Names, Knows, KnowsSlots, IsLawful}
use Rattle.semantics.specs.Drops.{keeps, keeps_by, IsPartOf, NamesKept, IsDroppedPool, IsDroppedState, KnowsThread}
use Rattle.semantics.specs.Drops.{IsDropped, DroppedUnseen}
use Rattle.vm_state.proofs.ListLemmas.{tested}
use Rattle.semantics.proofs.TestsLemmas.{from_some}
use Rattle.semantics.proofs.ConstantsLemmas.{zeros_known}
use Rattle.semantics.proofs.PoolsLemmas.{slots_of}
use Rattle.semantics.proofs.StartsLemmas.{argument_holds}
use Rattle.semantics.proofs.DroppedStepsLemmas.{StepsAlike, step_alike}

-- ---- threads of a list

all_at : {X : Type 0} (Q : X → Type 0) (xs : List X) (i : ℕ) (x : X) → AllByRecursion Q xs → slice_get xs i ≡ Some x
    → Q x
all_at Q [] i x all at = cc
all_at Q (y ∷ ys) zero x all at = subst Q (from_some at) all.0
all_at Q (y ∷ ys) (suc i) x all at = all_at Q ys i x all.1 at

all_set : {X : Type 0} (Q : X → Type 0) (xs : List X) (i : ℕ) (x : X) → AllByRecursion Q xs → Q x
    → AllByRecursion Q (slice_set xs i x)
all_set Q [] i x all k = tt
all_set Q (y ∷ ys) zero x all k = (k, all.1)
all_set Q (y ∷ ys) (suc i) x all k = (all.0, all_set Q ys i x all.1 k)

-- ---- steps and runs

module _ (P : Program) (lawful : IsLawful P) (kept : Names) where
  data Turn (w v : World) (t : ℕ) : Type 0 where
    Both : (w' v' : World) → step P w t ≡ Some w' → step P v t ≡ Some v' → IsDropped kept w' v' → Turn w v t
    Neither : step P w t ≡ None → step P v t ≡ None → Turn w v t

  turn : (w v : World) (t : ℕ) → IsDropped kept w v → Turn w v t
  turn w v t d = by_thread (slice_get w.threads t) refl
    where
      -- the step of the other world's thread, which is the same
      there : (o : Option steps.Thread) → slice_get w.threads t ≡ o → step P v t ≡ step_of P v t o
      there o at = ap (step_of P v t) (ap (λ (ts : List steps.Thread). slice_get ts t) d.threads ∙ at)

      here : (o : Option steps.Thread) → slice_get w.threads t ≡ o → step P w t ≡ step_of P w t o
      here o at = ap (step_of P w t) at

      by_step : (th : steps.Thread) → slice_get w.threads t ≡ Some th → (o r : Option After)
          → step_thread P t w.shared th ≡ o → step_thread P t v.shared th ≡ r → StepsAlike P lawful kept t o r
          → Turn w v t
      by_step th at None r is also a =
          Neither (here (Some th) at ∙ ap (put_thread w t) is) (there (Some th) at ∙ ap (put_thread v t) (also ∙ a))
      by_step th at (Some a) r is also b =
          Both _ _ (here (Some th) at ∙ ap (put_thread w t) is)
          (there (Some th) at ∙ ap (put_thread v t) (also ∙ b.1))
          (record {
            shared = b.2;
            threads = ap (λ (ts : List steps.Thread). slice_set ts t a.thread) d.threads;
            known = all_set (KnowsThread kept) w.threads t a.thread d.known b.3;
          })

      by_thread : (o : Option steps.Thread) → slice_get w.threads t ≡ o → Turn w v t
      by_thread None at = Neither (here None at) (there None at)
      by_thread (Some th) at =
          by_step th at _ _ refl refl
          (step_alike P lawful kept t w.shared v.shared th d.shared
          (all_at (KnowsThread kept) w.threads t th d.known at))

  run_there : (schedule : List ℕ) (w v last : World) → IsDropped kept w v → Run P w schedule last
      → (other : World) × Run P v schedule other × IsDropped kept last other
  run_there [] w v last d e = (v, refl, subst (λ (x : World). IsDropped kept x v) e d)
  run_there (t ∷ ts) w v last d (m, stepped, run) = elim (turn w v t d) [
    | Both w' v' s s' d' ↦
        let e : m ≡ w' = from_some (sym stepped ∙ s) in
        let rest = run_there ts w' v' last d' (subst (λ (x : World). Run P x ts last) e run) in
        (rest.0, (v', s', rest.1), rest.2)
    | Neither s s' ↦ (let clash : None ≡ Some m = sym s ∙ stepped in cc)
  ]

  run_back : (schedule : List ℕ) (w v last : World) → IsDropped kept w v → Run P v schedule last
      → (other : World) × Run P w schedule other × IsDropped kept other last
  run_back [] w v last d e = (w, refl, subst (λ (x : World). IsDropped kept w x) e d)
  run_back (t ∷ ts) w v last d (m, stepped, run) = elim (turn w v t d) [
    | Both w' v' s s' d' ↦
        let e : m ≡ v' = from_some (sym stepped ∙ s') in
        let rest = run_back ts w' v' last d' (subst (λ (x : World). Run P x ts last) e run) in
        (rest.0, (w', s, rest.1), rest.2)
    | Neither s s' ↦ (let clash : None ≡ Some m = sym s' ∙ stepped in cc)
  ]

  -- nobody sees what is left out
  seen_same : (w v : World) → IsDropped kept w v → seen v ≡ seen w
  seen_same w v d =
      ap (λ (p : List Print). record { printed = p; threads = map ending v.threads }) d.shared.printed
      ∙ ap (λ (ts : List steps.Thread). record { printed = w.shared.printed; threads = map ending ts }) d.threads

-- ---- the two starts

module _ (P : Program) (lawful : IsLawful P) (whole part : Image) (is : IsPartOf part whole) (named : NamesKept part)
    (entries : List ℕ) where
  other_holds : (c : ℕ) (b : Bool) → part.holds c ≡ b → whole.holds c ≡ b
  other_holds c b e = sym (is.holds c) ∙ e

  -- the number of an object that is still to be made is kept
  fresh : (c n : ℕ) → part.holds c ≡ true → (whole.region c).pool.count ≤ n → keeps_by part (Class c) n ≡ true
  fresh c n e past =
      let above : (part.region c).pool.count ≤ n = omega (arith, past, is.counts c e) in
      rw (e, le-ltb n (part.region c).pool.count above) refl

  region_dropped : (c : ℕ) → part.holds c ≡ true
      → IsDroppedPool (keeps part) (Class c) (whole.region c).pool (part.region c).pool
  region_dropped c e = record {
    count = is.counts c e;
    objects = λ n here. is.objects c n e here;
    slots = λ n here. subst (λ (o : Option Object). KnowsSlots (keeps part) (slots_of o)) (is.objects c n e here)
        (named.slots c n e);
    fresh = λ n past. fresh c n e past;
  }

  shared_dropped : IsDroppedState (keeps part) (image_start P whole entries).shared (image_start P part entries).shared
  shared_dropped = record {
    states = λ c. rw (is.holds c) refl;
    fields = λ c f. elim (tested (part.holds c)) [
      | inl e ↦ rw (e, other_holds c true e) (is.fields c f e)
      | inr e ↦ rw (e, other_holds c false e) refl
    ];
    statics = λ c f. elim (tested (part.holds c)) [
      | inl e ↦ rw (other_holds c true e) (subst (Knows (keeps part)) (is.fields c f e) (named.statics c f e))
      | inr e ↦ rw (other_holds c false e) (zeros_known (keeps part) (P.statics c) (lawful.statics c) f)
    ];
    regions = λ c. elim (tested (part.holds c)) [
      | inl e ↦ rw (e, other_holds c true e) (region_dropped c e)
      | inr e ↦
          rw (e, other_holds c false e)
          (record { count = refl; objects = λ n here. refl; slots = λ n here. tt; fresh = λ n past. rw e refl })
    ];
    pools = λ t. record {
      count = refl;
      objects = λ n here. refl;
      slots = λ n here. argument_holds (keeps part) entries t n;
      fresh = λ n past. refl;
    };
    printed = refl;
  }

  threads_known : (n : ℕ) (cs : List ℕ) → AllByRecursion (KnowsThread (keeps part)) (threads_from P n cs)
  threads_known n [] = tt
  threads_known n (c ∷ cs) = (((lawful.start_names (keeps part) c n refl, tt), tt), threads_known (n + 1) cs)

  start_dropped : IsDropped (keeps part) (image_start P whole entries) (image_start P part entries)
  start_dropped = record { shared = shared_dropped; threads = refl; known = threads_known 0 entries }

  there : (s : Observation) → Shows P (image_start P whole entries) s → Shows P (image_start P part entries) s
  there s (schedule, last, run, e) =
      let other = run_there P lawful (keeps part) schedule _ _ last start_dropped run in
      (schedule, other.0, other.1, seen_same P lawful (keeps part) last other.0 other.2 ∙ e)

  back : (s : Observation) → Shows P (image_start P part entries) s → Shows P (image_start P whole entries) s
  back s (schedule, last, run, e) =
      let other = run_back P lawful (keeps part) schedule _ _ last start_dropped run in
      (schedule, other.0, other.1, sym (seen_same P lawful (keeps part) other.0 last other.2) ∙ e)

pub dropped_unseen_lem : DroppedUnseen
dropped_unseen_lem P whole part entries lawful is named s =
    (there P lawful whole part is named entries s, back P lawful whole part is named entries s)
