-- Whole runs: a lazy one leads where one from the image leads, and conversely.
use Rattle.std.proofs.Common.{◌≡◌, ◌≢◌, ℕ, zero, suc, ◌<◌, true, false, inl, inr, List, [], ◌∷◌, ◌++◌, map, Some, None}
use Rattle.std.proofs.Common.{refl, sym, ap}
use Rattle.std.proofs.Common.{◌∙◌, subst, eq-eqb, arith}
use Rattle.vm_state.specs.declared.classes.ClassState.TheVariants.{Uninitialized, InProgress}
use Rattle.vm_state.specs.declared.ends.Ending.{Ending}
use Rattle.vm_state.specs.Output.{Print}
use Rattle.vm_state.specs.declared.frame.Frame.{Frame}
use Rattle.vm_state.specs.declared.initialization.Level.{Level}
use Rattle.semantics.specs.Steps.{Thread, Going, Ended}
use Rattle.semantics.specs.Worlds.{World, step, Run, ending, Observation, Shows}
use Rattle.semantics.specs.Images.{Image}
use Rattle.semantics.specs.Erasure.{cut, cut_thread, IsErased, ErasedUnseen}
use Rattle.vm_state.proofs.ListLemmas.{tested}
use Rattle.semantics.proofs.TestsLemmas.{from_some}
use Rattle.semantics.proofs.RunsLemmas.{runs_join_lem}
use Rattle.semantics.proofs.SettingLemmas.{Setting}
use Rattle.semantics.proofs.OwnersLemmas.{Owned, owned_step}
use Rattle.semantics.proofs.FuelLemmas.{total}
use Rattle.semantics.proofs.InvariantLemmas.{Fuel}
use Rattle.semantics.proofs.TurnKindsLemmas as TurnKinds
use Rattle.semantics.proofs.TurnsLemmas.{turn}
use Rattle.semantics.proofs.StartsLemmas as Starts

-- ---- what is erased is not seen

ending-cut : (I : Image) (fs : List Frame) (ls : List Level) → ending (cut I fs ls) ≡ ending (Going fs ls)
ending-cut I fs [] = refl
ending-cut I fs (l ∷ ls) = elim (tested (I.holds l.initialization.class)) [
  | inl a ↦ rw a (ending-cut I l.under ls)
  | inr n ↦ rw n
]

ending-cut_thread : (I : Image) (th : Thread) → ending (cut_thread I th) ≡ ending th
ending-cut_thread I (Going fs ls) = ending-cut I fs ls
ending-cut_thread I (Ended end) = refl

endings-cut : (I : Image) (ts : List Thread) → map ending (map (cut_thread I) ts) ≡ map ending ts
endings-cut I [] = refl
endings-cut I (t ∷ ts) =
    ap (λ (e : Ending). e ∷ map ending (map (cut_thread I) ts)) (ending-cut_thread I t)
    ∙ ap (λ (es : List Ending). ending t ∷ es) (endings-cut I ts)

pub erased_unseen_lem : ErasedUnseen
erased_unseen_lem I lazy image erased =
    ap (λ (p : List Print). record { printed = p; threads = map ending image.threads }) erased.shared.printed
    ∙ (ap (λ (ts : List Thread). record { printed = lazy.shared.printed; threads = map ending ts }) erased.threads
    ∙ ap (λ (es : List Ending). record { printed = lazy.shared.printed; threads = es }) (endings-cut I lazy.threads))

module _ (S : Setting) where
  -- ---- lazy to image

  run_to_image : (schedule : List ℕ) (fuel : Fuel) (w v last : World) → TurnKinds.Beside S fuel w v → Owned S.P w →
      Run S.P w schedule last →
      (other : List ℕ) × (there : World) × Run S.P v other there × IsErased S.I last there
  run_to_image [] fuel w v last b owned e = ([], v, refl, subst (λ (x : World). IsErased S.I x v) e b.erased)
  run_to_image (t ∷ ts) fuel w v last b owned (m, stepped, run) = elim (turn S fuel w v t b owned) [
    | TurnKinds.Alike fuel' w1 v1 s s' b1 same away ↦
        let e : w1 ≡ m = from_some (sym s ∙ stepped) in
        let rest : (other : List ℕ) × (there : World) × Run S.P v1 other there × IsErased S.I last there =
        run_to_image ts fuel' w1 v1 last b1 (owned_step S.P S.lawful t w w1 owned s)
        (subst (λ (x : World). Run S.P x ts last) (sym e) run) in
        (t ∷ rest.0, rest.1, (v1, s', rest.2), rest.3)
    | TurnKinds.Slower fuel' w1 s b1 less by ↦
        let e : w1 ≡ m = from_some (sym s ∙ stepped) in
        run_to_image ts fuel' w1 v last b1 (owned_step S.P S.lawful t w w1 owned s)
        (subst (λ (x : World). Run S.P x ts last) (sym e) run)
    | TurnKinds.Neither s which ↦ (let clash : None ≡ Some m = sym s ∙ stepped in cc)
  ]

  -- ---- image to lazy

  -- no accepted class is in progress
  abbrev NoHalf : World → Type 0
  NoHalf w = (d u : ℕ) → S.I.holds d ≡ true → w.shared.states d ≢ InProgress u

  -- whole initializers, nested ones first, and then the step
  catch_up : (k : ℕ) (fuel : Fuel) (w v v' : World) (t : ℕ) → total fuel S.bound < k → TurnKinds.Beside S fuel w v
      → Owned S.P w →
      ((d u : ℕ) → S.I.holds d ≡ true → w.shared.states d ≡ InProgress u → u ≡ t) → step S.P v t ≡ Some v' →
      (schedule : List ℕ) × (fuel' : Fuel) × (w' : World) × Run S.P w schedule w' × TurnKinds.Beside S fuel' w' v'
      × Owned S.P w'
      × NoHalf w'
  catch_up zero fuel w v v' t le b owned own stepped = absurd (omega arith)
  catch_up (suc k) fuel w v v' t le b owned own stepped = elim (turn S fuel w v t b owned) [
    | TurnKinds.Alike fuel' w1 v1 s s' b1 same away ↦
        let e : v1 ≡ v' = from_some (sym s' ∙ stepped) in
        let none : NoHalf w1 = λ d u a by.
        (let old : w.shared.states d ≡ InProgress u = sym (same d a) ∙ by in
        absurd (away d a (old ∙ ap InProgress (own d u a old)))) in (
          t ∷ [],
          fuel',
          w1,
          (w1, s, refl),
          subst (TurnKinds.Beside S fuel' w1) e b1,
          owned_step S.P S.lawful t w w1 owned s,
          none,
        )
    | TurnKinds.Slower fuel' w1 s b1 less by ↦
        let rest : (schedule : List ℕ) × (fuel'' : Fuel) × (w' : World) × Run S.P w1 schedule w'
        × TurnKinds.Beside S fuel'' w' v'
        × Owned S.P w' × NoHalf w' =
        catch_up k fuel' w1 v v' t (omega arith) b1 (owned_step S.P S.lawful t w w1 owned s)
        (λ d u a now. elim (by d u a now) [ inl old ↦ own d u a old | inr same ↦ same ]) stepped in
        (t ∷ rest.0, rest.1, rest.2, (w1, s, rest.3), rest.4, rest.5, rest.6)
    | TurnKinds.Neither s which ↦ elim which [
      | inl o ↦
          let same : o.1 ≡ t = own o.0 o.1 o.2 o.3 in
          (let clash : false ≡ true = sym o.4 ∙ eq-eqb t o.1 (sym same) in cc)
      | inr q ↦ (let clash : None ≡ Some v' = sym q ∙ stepped in cc)
    ]
  ]

  run_to_lazy : (schedule : List ℕ) (fuel : Fuel) (w v last : World) → TurnKinds.Beside S fuel w v → Owned S.P w
      → NoHalf w →
      Run S.P v schedule last → (other : List ℕ) × (there : World) × Run S.P w other there × IsErased S.I there last
  run_to_lazy [] fuel w v last b owned none e = ([], w, refl, subst (IsErased S.I w) e b.erased)
  run_to_lazy (t ∷ ts) fuel w v last b owned none (m, stepped, run) =
      let one : (schedule : List ℕ) × (fuel' : Fuel) × (w' : World) × Run S.P w schedule w'
      × TurnKinds.Beside S fuel' w' m
      × Owned S.P w' × NoHalf w' =
      catch_up (suc (total fuel S.bound)) fuel w v m t (omega arith) b owned (λ d u a by. absurd (none d u a by))
      stepped in
      let rest : (other : List ℕ) × (there : World) × Run S.P one.2 other there × IsErased S.I there last =
      run_to_lazy ts one.1 one.2 m last one.4 one.5 one.6 run in
      (one.0 ++ rest.0, rest.1, runs_join_lem S.P w one.2 rest.1 one.0 rest.0 one.3 rest.2, rest.3)

  -- ---- from the two starts

  module _ (entries : List ℕ) where
    none_half : NoHalf (Starts.lazy S entries)
    none_half d u a s = (let clash : Uninitialized ≡ InProgress u = s in cc)

    pub shows_image : (s : Observation) → Shows S.P (Starts.lazy S entries) s → Shows S.P (Starts.image S entries) s
    shows_image s (ts, last, run, e) =
        let other : (other : List ℕ) × (there : World) × Run S.P (Starts.image S entries) other there
        × IsErased S.I last there =
        run_to_image ts (Starts.first_fuel S entries) _ _ last (Starts.first_beside S entries)
        (Starts.first_owned S entries) run in
        (other.0, other.1, other.2, erased_unseen_lem S.I last other.1 other.3 ∙ e)

    pub shows_lazy : (s : Observation) → Shows S.P (Starts.image S entries) s → Shows S.P (Starts.lazy S entries) s
    shows_lazy s (ts, last, run, e) =
        let other : (other : List ℕ) × (there : World) × Run S.P (Starts.lazy S entries) other there
        × IsErased S.I there last =
        run_to_lazy ts (Starts.first_fuel S entries) _ _ last (Starts.first_beside S entries)
        (Starts.first_owned S entries) none_half run in
        (other.0, other.1, other.2, sym (erased_unseen_lem S.I other.1 last other.3) ∙ e)
