-- There are no more waves than classes.
use Rattle.std.proofs.Common.{◌≡◌, ◌≢◌, ◌⊎◌, inl, inr, ℕ, zero, suc, ◌<◌, ◌≤◌, Bool, List, length, Some}
use Rattle.std.proofs.Common.{refl, sym, subst, ◌∙◌, arith}
use Rattle.std.proofs.lemmas.Option.{slice_get_within}
use Rattle.program.specs.Tables.{Tables}
use Rattle.initializer_analysis.specs.declared.verdict.Verdict.{Verdict}
use Rattle.initializer_analysis.specs.declared.verdict.Verdict.TheVariants.{Wave}
use Rattle.initializer_analysis.specs.Verdicts.{HasWave, AreVerdicts}
use Rattle.wave_scheduler.specs.steps.Judged.{FewWaves}
use Rattle.initializer_analysis.proofs.ReachesLemmas.{decided_same}

-- each of some numbers has a place, and no two of them the same one
pub record ArePlaced (few places : ℕ) (At : ℕ → ℕ → Type 0) : Type 0 where
  pub each : (i : ℕ) → i < few → (d : ℕ) × (d < places) × At i d
  pub apart : (i j d : ℕ) → At i d → At j d → i ≡ j

-- without the last number and the last place: who stood there stands where the last number did
abbrev AtMoved : ℕ → ℕ → ℕ → (ℕ → ℕ → Type 0) → ℕ → ℕ → Type 0
AtMoved few last gap At i d = (i < few) × ((At i d × (d ≢ last)) ⊎ (At i last × (d ≡ gap)))

placed_within : (places few : ℕ) (At : ℕ → ℕ → Type 0) → ArePlaced few places At → few ≤ places
placed_within places zero At are = omega arith
placed_within zero (suc few) At are = absurd (let (d, low, at) = are.each few (omega arith) in omega arith)
placed_within (suc places) (suc few) At are = by (are.each few (omega arith))
    (λ gap moved. placed_within places few (AtMoved few places gap At) moved)
  where
    by : (d : ℕ) × (d < suc places) × At few d
        → ((gap : ℕ) → ArePlaced few places (AtMoved few places gap At) → few ≤ places) → suc few ≤ suc places
    by (gap, low, last) induction =
        (let rest = induction gap (record { each = each; apart = apart }) in omega arith)
      where
        each : (i : ℕ) → i < few → (d : ℕ) × (d < places) × AtMoved few places gap At i d
        each i small = by_place (are.each i (omega arith))
          where
            by_place : (d : ℕ) × (d < suc places) × At i d → (d : ℕ) × (d < places) × AtMoved few places gap At i d
            by_place (d, within, at) = elim (decided_same d places) [
              | inr other ↦ (d, omega arith, (small, inl (at, other)))
              | inl same ↦
                  let here = subst (At i) same at in
                  let other : gap ≢ places = λ is. (let two = are.apart i few places here (subst (At few) is last) in
                  omega arith) in
                  (gap, omega arith, (small, inr (here, refl)))
            ]

        apart : (i j d : ℕ) → AtMoved few places gap At i d → AtMoved few places gap At j d → i ≡ j
        apart i j d (small, inl (at, other)) (low_j, inl (also, still)) = are.apart i j d at also
        apart i j d (small, inr (at, is)) (low_j, inr (also, so)) = are.apart i j places at also
        apart i j d (small, inl (at, other)) (low_j, inr (also, so)) =
            (let two = are.apart i few gap (subst (At i) so at) last in absurd (omega arith))
        apart i j d (small, inr (at, is)) (low_j, inl (also, still)) =
            (let two = are.apart j few gap (subst (At j) is also) last in absurd (omega arith))

module _ (P : Tables) (forced : List Bool) (judged : List Verdict) (are : AreVerdicts P forced judged) where
  -- there is a class of each lower wave
  each_wave : (n c i : ℕ) → HasWave judged c n → i ≤ n → (d : ℕ) × HasWave judged d i
  each_wave zero c i at within = (c, subst (HasWave judged c) (omega arith) at)
  each_wave (suc n) c i at within = elim (decided_same i (suc n)) [
    | inl same ↦ (c, subst (HasWave judged c) (sym same) at)
    | inr other ↦ elim (are.each c (Wave (suc n)) at).1.least [
      | inl none ↦ absurd (omega arith)
      | inr (e, used, m, here, is) ↦
          each_wave n e i (subst (HasWave judged e) (omega arith) here) (omega arith)
    ]
  ]

  few : (c n : ℕ) → HasWave judged c n → n < length P.classes
  few c n at =
      (let within = placed_within (length P.classes) (suc n) (λ i d. HasWave judged d i) (record {
        each = λ i low. (let (d, here) = each_wave n c i at (omega arith) in
            let small = slice_get_within judged d (Wave i) here in (d, omega (arith, are.count), here));
        apart = λ i j d first second.
            (let two : Some (Wave i) ≡ Some (Wave j) = sym first ∙ second in
            let one : Wave i ≡ Wave j = cc in cc);
      }) in omega arith)

pub few_waves_lem : FewWaves
few_waves_lem P forced judged are c n at = few P forced judged are c n at
