-- Settling in small steps: an initializer alone, one instruction after the other.
use Rattle.std.specs.Prelude.{◌≡◌, ℕ, suc, ◌+◌, ◌-◌, ◌<◌, ◌≤◌, List, [], ◌∷◌, Option, Some, None, ◌↔◌}
use Rattle.vm_state.specs.declared.frame.Frame.{Frame}
use Rattle.vm_state.specs.SharedState.{Region}
use Rattle.semantics.specs.Moves.{moved}
use Rattle.semantics.specs.Programs.{Program}
use Rattle.semantics.specs.Quiet.{Environment, QuietMove, OverBudget, Faulted, Stop, Refused, Leaves, Stops, quiet_step}
use Rattle.semantics.specs.Settling.{constant_region, Settles, StoppedBy}

-- From these frames and this region, quiet instructions of this cost in all lead to this region, with no frame left.
pub data RunsAlone (P : Program) (env : Environment) (c : ℕ) : List Frame → Region → ℕ → Region → Type 0 where
  Over : {own : Region} → RunsAlone P env c [] own 0 own
  Step : {f : Frame} {fs gs : List Frame} {own last : Region} {m : QuietMove} {n : ℕ} →
      quiet_step P env c f own ≡ Leaves m → moved m.move f fs ≡ Some gs → RunsAlone P env c gs m.region n last →
      RunsAlone P env c (f ∷ fs) own (1 + m.elements + n) last

-- the frame that begins, if there is one
abbrev pub body : Option Frame → List Frame
body None = []
body (Some f) = f ∷ []

abbrev pub SettlesAlone : Program → Environment → ℕ → ℕ → Region → Type 0
SettlesAlone P env c n region = RunsAlone P env c (body (P.initializer c)) (constant_region P c) n region

-- From these frames and this region, after quiet instructions within this budget, the next instruction is stopped.
pub data StopsAlone (P : Program) (env : Environment) (c : ℕ) : List Frame → Region → ℕ → Stop → Type 0 where
  -- before the instruction, which costs 1
  Unpaid : {f : Frame} {fs : List Frame} {own : Region} → StopsAlone P env c (f ∷ fs) own 0 (Refused OverBudget)
  -- at its first failing check
  Failing : {f : Frame} {fs : List Frame} {own : Region} {budget : ℕ} {stop : Stop} →
      quiet_step P env c f own ≡ Stops stop → StopsAlone P env c (f ∷ fs) own (suc budget) stop
  -- before the elements of the arrays that it makes
  Unmade : {f : Frame} {fs : List Frame} {own : Region} {m : QuietMove} {budget : ℕ} →
      quiet_step P env c f own ≡ Leaves m → budget < m.elements →
      StopsAlone P env c (f ∷ fs) own (suc budget) (Refused OverBudget)
  -- at its return, as its caller has no room for the value
  Full : {f : Frame} {fs : List Frame} {own : Region} {m : QuietMove} {budget : ℕ} →
      quiet_step P env c f own ≡ Leaves m → m.elements ≤ budget → moved m.move f fs ≡ None →
      StopsAlone P env c (f ∷ fs) own (suc budget) (Refused Faulted)
  -- later
  Later : {f : Frame} {fs gs : List Frame} {own : Region} {m : QuietMove} {budget : ℕ} {stop : Stop} →
      quiet_step P env c f own ≡ Leaves m → m.elements ≤ budget → moved m.move f fs ≡ Some gs →
      StopsAlone P env c gs m.region (budget - m.elements) stop → StopsAlone P env c (f ∷ fs) own (suc budget) stop

abbrev pub StoppedAlone : Program → Environment → ℕ → ℕ → Stop → Type 0
StoppedAlone P env c budget stop = StopsAlone P env c (body (P.initializer c)) (constant_region P c) budget stop

-- Big steps and small steps are stopped by the same thing.
abbrev pub StopsAgree : Type 0
StopsAgree =
    (P : Program) (env : Environment) (c budget : ℕ) (stop : Stop) →
    StoppedBy P env c budget stop ↔ StoppedAlone P env c budget stop

-- Big steps and small steps lead to the same region at the same cost.
abbrev pub StepsAgree : Type 0
StepsAgree =
    (P : Program) (env : Environment) (c n : ℕ) (region : Region) →
    Settles P env c n region ↔ SettlesAlone P env c n region
