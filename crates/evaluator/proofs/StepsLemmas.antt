-- What the conduct of one instruction makes of an initializer.
use Rattle.std.proofs.Common.{◌≡◌, ℕ, suc, ◌+◌, ◌-◌, ◌<◌, ◌≤◌, true, false, nat_lt, List, [], ◌∷◌}
use Rattle.std.proofs.Common.{Some, None, Ok, Err, inl, inr, refl, sym, ap, subst, subst₂, ◌∙◌}
use Rattle.std.proofs.Common.{arith}
use Rattle.std.proofs.lemmas.Bool.{cases_lt}
use Rattle.vm_state.specs.declared.frame.Frame.{Frame}
use Rattle.vm_state.specs.SharedState.{Region}
use Rattle.semantics.specs.Rows.{Row}
use Rattle.semantics.specs.Moves.{moved}
use Rattle.semantics.specs.Programs.{Program}
use Rattle.semantics.specs.Quiet.{Environment, QuietMove, OverBudget, Faulted, Stop, Refused, Conduct, Leaves, Stops}
use Rattle.semantics.specs.Quiet.{quiet_step}
use Rattle.semantics.specs.Alone.{RunsAlone, Over, Step, StopsAlone, Failing, Unmade, Full, Later}
use Rattle.evaluator.specs.steps.Within.{capped}
use Rattle.std.specs.declared.result.Result.{Result}
use Rattle.machine.specs.Accesses.{unless_refused, Gives}
use Rattle.machine.specs.declared.kinds.Conclusion.{Conclusion}
use Rattle.machine.specs.declared.kinds.Stop.{Stop as Reason}
use Rattle.machine.specs.declared.kinds.Stop.TheVariants as reasons
use Rattle.evaluator.specs.steps.Builds.{Building, stopped_build}
use Rattle.evaluator.specs.steps.Within.{within}
use Rattle.evaluator.specs.steps.Steps.{GoesOn, Performs}

over_budget : (most n : ℕ) → most < n → nat_lt most n ≡ true
over_budget most n h = grind arith

in_budget : (most n : ℕ) → n ≤ most → nat_lt most n ≡ false
in_budget most n h = grind arith

-- ---- what an instruction leaves, and what stops it

-- where a capped conduct leaves a move
record Left (most : ℕ) (o : Conduct) (m : QuietMove) : Type 0 where
  is : o ≡ Leaves m
  fits : m.elements ≤ most

left : (most : ℕ) (o : Conduct) (m : QuietMove) → capped most o ≡ Leaves m → Left most o m
left most (Stops stop) m e = cc
left most (Leaves move) m e = elim (cases_lt most move.elements) [
  | inl over ↦ (let clash : Stops (Refused OverBudget) ≡ Leaves m = rw (over_budget most move.elements over) at e in cc)
  | inr fits ↦
      let same : Leaves move ≡ Leaves m = rw (in_budget most move.elements fits) at e in
      let one : move ≡ m = cc in
      record { is = same; fits = subst (λ (x : QuietMove). x.elements ≤ most) one fits }
]

module _ (P : Program) (env : Environment) (c : ℕ) where
  abbrev conduct : ℕ → Frame → Region → Conduct
  conduct most f own = capped most (quiet_step P env c f own)

  pub step_on : (most : ℕ) (f : Frame) (fs gs : List Frame) (own : Region) (m : QuietMove) →
      conduct most f own ≡ Leaves m → moved m.move f fs ≡ Some gs →
      GoesOn P env c (f ∷ fs) own (suc most) gs m.region (most - m.elements)
  step_on most f fs gs own m e leads =
      let l = left most (quiet_step P env c f own) m e in
      record {
        cost = 1 + m.elements;
        paid = omega (arith, l.fits);
        runs = λ n last run. Step l.is leads run;
        stops = λ stop stops. Later l.is l.fits leads stops;
      }

  pub step_full : (most : ℕ) (f : Frame) (fs : List Frame) (own : Region) (m : QuietMove) →
      conduct most f own ≡ Leaves m → moved m.move f fs ≡ None →
      StopsAlone P env c (f ∷ fs) own (suc most) (Refused Faulted)
  step_full most f fs own m e none =
      let l = left most (quiet_step P env c f own) m e in Full l.is l.fits none

  pub step_stops : (most : ℕ) (f : Frame) (fs : List Frame) (own : Region) (stop : Stop) →
      conduct most f own ≡ Stops stop → StopsAlone P env c (f ∷ fs) own (suc most) stop
  step_stops most f fs own stop e = by_conduct (quiet_step P env c f own) refl e
    where
      by_conduct : (o : Conduct) → quiet_step P env c f own ≡ o → capped most o ≡ Stops stop →
          StopsAlone P env c (f ∷ fs) own (suc most) stop
      by_conduct (Stops other) is e = Failing (is ∙ e)
      by_conduct (Leaves m) is e = elim (cases_lt most m.elements) [
        | inl over ↦
            let same : Stops (Refused OverBudget) ≡ Stops stop = rw (over_budget most m.elements over) at e in
            let one : Refused OverBudget ≡ stop = cc in
            subst (λ (s : Stop). StopsAlone P env c (f ∷ fs) own (suc most) s) one (Unmade is over)
        | inr fits ↦ (let clash : Leaves m ≡ Stops stop = rw (in_budget most m.elements fits) at e in cc)
      ]

  -- ---- steps in a row

  pub goes_further : {fs gs hs : List Frame} {own new last : Region} {budget left rest : ℕ} →
      GoesOn P env c fs own budget gs new left → GoesOn P env c gs new left hs last rest →
      GoesOn P env c fs own budget hs last rest
  goes_further {fs = fs} {own = own} first second = record {
    cost = first.cost + second.cost;
    paid = omega (arith, first.paid, second.paid);
    runs = λ n end run.
        subst (λ (k : ℕ). RunsAlone P env c fs own k end) (omega arith)
        (first.runs (second.cost + n) end (second.runs n end run));
    stops = λ stop stops. first.stops stop (second.stops stop stops);
  }

  -- the same, where so much is left before and after it
  pub further : {fs gs hs : List Frame} {own new last : Region} {budget left : ℕ} (before rest after : ℕ) →
      GoesOn P env c fs own budget gs new left → GoesOn P env c gs new before hs last rest → before ≡ left →
      rest ≡ after → GoesOn P env c fs own budget hs last after
  further {gs = gs} {hs = hs} {new = new} {last = last} before rest after first second same again =
      goes_further first (subst₂ (λ (l r : ℕ). GoesOn P env c gs new l hs last r) same again second)

  -- a stop later
  pub stops_further : {fs gs : List Frame} {own new : Region} {budget left : ℕ} {stop : Stop} (before : ℕ) →
      GoesOn P env c fs own budget gs new left → StopsAlone P env c gs new before stop → before ≡ left →
      StopsAlone P env c fs own budget stop
  stops_further {gs = gs} {new = new} {stop = stop} before first stops same =
      first.stops stop (subst (λ (l : ℕ). StopsAlone P env c gs new l stop) same stops)

  -- no frame is left
  pub goes_over : {fs : List Frame} {own last : Region} {budget rest : ℕ} →
      GoesOn P env c fs own budget [] last rest → (n : ℕ) × RunsAlone P env c fs own n last × (n ≤ budget)
  goes_over {last = last} goes = (goes.cost + 0, goes.runs 0 last Over, omega (arith, goes.paid))

-- ---- an instruction's result

pub performs : (run : Row → Conduct) (b : Building) (r : Row) (conduct : Conduct) → run r ≡ conduct → (f : Frame)
    (result : Result Conclusion Reason)
    → Gives stopped_build run (within b.program b.environment b.class b.most b.own b.made) r f result
    → Performs conduct b f result
performs run b r conduct is f (Ok conclusion) gives = sym is ∙ gives
performs run b r conduct is f (Err stop) gives = ap (unless_refused stop) (sym is) ∙ gives

-- a reason that is not memory is heard
pub heard : (stop : Reason) (a b : Conduct) → (stop ≡ reasons.Memory → ⊥) →
    unless_refused stop a ≡ unless_refused stop b → a ≡ b
unfolding unless_refused
heard reasons.Memory a b other e = absurd (other refl)
heard (reasons.Needs d) a b other e = cc
heard reasons.Waits a b other e = cc
heard reasons.ForeignObject a b other e = cc
heard reasons.Barred a b other e = cc
heard reasons.OverBudget a b other e = cc
