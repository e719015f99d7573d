-- What stops an initializer in big steps stops it in small ones, and the other way round.
use Rattle.std.proofs.Common.{◌≡◌, inl, inr, ℕ, ◌+◌, ◌-◌, ◌≤◌, List, [], ◌∷◌, Option, Some, None}
use Rattle.std.proofs.Common.{option_map, refl, sym, ap, subst, ◌∙◌, arith}
use Rattle.std.proofs.Math.Path.{subst₃}
use Rattle.vm_state.specs.declared.value.Value.{Value}
use Rattle.vm_state.specs.declared.frame.Frame.{Frame}
use Rattle.vm_state.specs.SharedState.{Region}
use Rattle.semantics.specs.Rows.{Move, Stays, Becomes, Calls, Returns}
use Rattle.semantics.specs.Moves.{with_operands, returned, moved}
use Rattle.semantics.specs.Programs.{Program}
use Rattle.semantics.specs.Quiet.{Environment, QuietMove, Conduct, Faulted, Stop, Refused, Leaves, quiet_step}
use Rattle.semantics.specs.Settling.{constant_region, entered, RunsBody, ByReturn, ByStep, ByCall}
use Rattle.semantics.specs.Settling.{StopsBody, Before, At, Making, Inside, NoRoom, AfterCall, StoppedAt, StoppedBy}
use Rattle.semantics.specs.Alone.{RunsAlone, Over, Step, body, StopsAlone, Unpaid, Failing, Unmade, Full, Later}
use Rattle.semantics.specs.Alone.{StoppedAlone, StopsAgree}
use Rattle.semantics.proofs.TestsLemmas.{from_some}
use Rattle.semantics.proofs.FrameMovesLemmas.{onward_moved, moves_as}
use Rattle.semantics.proofs.OneRunLemmas.{same_move, same_elements, same_of}
use Rattle.semantics.proofs.BigStepsLemmas.{small_from_big}
use Rattle.semantics.proofs.RefusalsLemmas.{settles_or_stops_lem}

module _ (P : Program) (env : Environment) (c : ℕ) where
  -- ---- from big steps to small ones

  at_budget : {fs : List Frame} {own : Region} {n k : ℕ} {stop : Stop} → StopsAlone P env c fs own n stop → n ≡ k
      → StopsAlone P env c fs own k stop
  at_budget {fs = fs} {own = own} {stop = stop} stops same =
      subst (λ (n : ℕ). StopsAlone P env c fs own n stop) same stops

  -- stopped one instruction later
  pub later : {f : Frame} {fs gs : List Frame} {own : Region} {m : QuietMove} {k : ℕ} {stop : Stop}
      → quiet_step P env c f own ≡ Leaves m → moved m.move f fs ≡ Some gs → StopsAlone P env c gs m.region k stop
      → (budget : ℕ) → budget ≡ 1 + m.elements + k → StopsAlone P env c (f ∷ fs) own budget stop
  later {m = m} {k = k} moves leads stops budget is =
      at_budget (Later {budget = m.elements + k} moves (omega arith) leads (at_budget stops (omega arith)))
      (omega (arith, is))

  -- there is no room for the value that the instruction returns
  full : {f : Frame} {fs : List Frame} {own : Region} {m : QuietMove} → quiet_step P env c f own ≡ Leaves m →
      moved m.move f fs ≡ None → (k : ℕ) → StopsAlone P env c (f ∷ fs) own (1 + m.elements + k) (Refused Faulted)
  full {m = m} moves none k = at_budget (Full {budget = m.elements + k} moves (omega arith) none) (omega arith)

  -- a body, and then what stops the frames to which it returns
  stops_after_body : {f : Frame} {own back : Region} {n k : ℕ} {v : Option Value} {stop : Stop}
      → RunsBody P env c f own n v back →
      (fs : List Frame) {gs : List Frame} → returned v fs ≡ Some gs → StopsAlone P env c gs back k stop →
      StopsAlone P env c (f ∷ fs) own (n + k) stop
  stops_after_body (ByReturn {f = f} moves is) fs leads stops = later moves (moves_as f fs is leads) stops _ refl
  stops_after_body (ByStep {f = f} {g = g} {m = m} moves is on) fs leads stops =
      later moves (onward_moved m.move f g fs is) (stops_after_body on fs leads stops) _ (omega arith)
  stops_after_body (ByCall {f = f} {operands = operands} moves is called room on) fs leads stops =
      later moves (moves_as f fs is refl) (stops_after_body called (with_operands f operands ∷ fs)
      (ap (option_map (λ back. back ∷ fs)) room) (stops_after_body on fs leads stops)) _ (omega arith)

  -- a body, where there is no room for the value that it returns
  full_after_body : {f : Frame} {own back : Region} {n : ℕ} {v : Option Value} → RunsBody P env c f own n v back →
      (fs : List Frame) → returned v fs ≡ None → (k : ℕ) → StopsAlone P env c (f ∷ fs) own (n + k) (Refused Faulted)
  full_after_body (ByReturn {f = f} moves is) fs none k = full moves (moves_as f fs is none) k
  full_after_body (ByStep {f = f} {g = g} {m = m} moves is on) fs none k =
      later moves (onward_moved m.move f g fs is) (full_after_body on fs none k) _ (omega arith)
  full_after_body (ByCall {f = f} {operands = operands} moves is called room on) fs none k =
      later moves (moves_as f fs is refl) (stops_after_body called (with_operands f operands ∷ fs)
      (ap (option_map (λ back. back ∷ fs)) room) (full_after_body on fs none k)) _ (omega arith)

  -- a frame that is entered is the innermost
  entered_moved : (move : Move) (f g : Frame) (fs : List Frame) → entered move f ≡ Some g →
      (gs : List Frame) × (moved move f fs ≡ Some (g ∷ gs))
  entered_moved (Stays place locals operands) f g fs e = (fs, rw (from_some e) refl)
  entered_moved (Becomes h) f g fs e = (fs, rw (from_some e) refl)
  entered_moved (Calls operands h) f g fs e = (with_operands f operands ∷ fs, rw (from_some e) refl)
  entered_moved (Returns v) f g fs e = cc

  pub small_stops : {f : Frame} {own : Region} {budget : ℕ} {stop : Stop} → StopsBody P env c f own budget stop →
      (fs : List Frame) → StopsAlone P env c (f ∷ fs) own budget stop
  small_stops Before fs = Unpaid
  small_stops (At stops) fs = Failing stops
  small_stops (Making moves over) fs = Unmade moves over
  small_stops (Inside {f = f} {g = g} {m = m} moves deep fits stops) fs =
      let way = entered_moved m.move f g fs deep in later moves way.1 (small_stops stops way.0) _ (omega arith)
  small_stops (NoRoom {f = f} {operands = operands} {m = m} {n = n} {budget = budget} moves is whole fits none) fs =
      later moves (moves_as f fs is refl) (full_after_body whole (with_operands f operands ∷ fs)
      (ap (option_map (λ back. back ∷ fs)) none) (budget - (m.elements + n))) _ (omega arith)
  small_stops (AfterCall {f = f} {operands = operands} moves is whole fits room stops) fs =
      later moves (moves_as f fs is refl) (stops_after_body whole (with_operands f operands ∷ fs)
      (ap (option_map (λ back. back ∷ fs)) room) (small_stops stops fs)) _ (omega arith)

  -- ---- small steps are stopped by one thing

  same_frames : (f : Frame) (fs : List Frame) {gs hs : List Frame} {o : Conduct} {m move : QuietMove}
      → o ≡ Leaves m → o ≡ Leaves move → moved m.move f fs ≡ Some gs → moved move.move f fs ≡ Some hs → gs ≡ hs
  same_frames f fs first second leads again =
      from_some (same_of (λ (x : Move). moved x f fs) first second leads again)

  -- stopped after one of two equal moves, after the other
  stops_as : {gs hs : List Frame} {m move : QuietMove} {stop : Stop} (budget : ℕ) → gs ≡ hs → m ≡ move
      → StopsAlone P env c hs move.region (budget - move.elements) stop
      → StopsAlone P env c gs m.region (budget - m.elements) stop
  stops_as {stop = stop} budget frames same stops =
      subst₃ (λ n gs r. StopsAlone P env c gs r (budget - n) stop) (sym (ap (λ (x : QuietMove). x.elements) same))
      (sym frames) (sym (ap (λ (x : QuietMove). x.region) same)) stops

  -- a run within the budget is not stopped
  pub alone_excludes : {fs : List Frame} {own last : Region} {n budget : ℕ} {stop : Stop}
      → RunsAlone P env c fs own n last → StopsAlone P env c fs own budget stop → n ≤ budget → ⊥
  alone_excludes (Step moves leads rest) Unpaid within = omega arith
  alone_excludes (Step {f = f} {own = own} moves leads rest) (Failing stops) within =
      (let clash = sym moves ∙ stops in cc)
  alone_excludes (Step moves leads rest) (Unmade second over) within = omega (arith, same_elements moves second)
  alone_excludes (Step {f = f} {fs = fs} {gs = gs} moves leads rest) (Full second fits none) within =
      let clash : Some gs ≡ None = same_of (λ (x : Move). moved x f fs) moves second leads none in cc
  alone_excludes (Step {f = f} {fs = fs} moves leads rest) (Later {budget = budget} second fits again stops) within =
      alone_excludes rest (stops_as budget (same_frames f fs moves second leads again) (same_move moves second) stops)
      (omega (arith, same_elements moves second))
  alone_excludes Over stops within = elim stops [ ]

  pub alone_once : {fs : List Frame} {own : Region} {budget : ℕ} {stop other : Stop}
      → StopsAlone P env c fs own budget stop → StopsAlone P env c fs own budget other → stop ≡ other
  alone_once Unpaid Unpaid = refl
  alone_once (Failing first) (Failing second) = cc (sym first ∙ second)
  alone_once (Failing {f = f} {own = own} first) (Unmade second over) = (let clash = sym second ∙ first in cc)
  alone_once (Failing {f = f} {own = own} first) (Full second fits none) = (let clash = sym second ∙ first in cc)
  alone_once (Failing {f = f} {own = own} first) (Later second fits leads stops) =
      (let clash = sym second ∙ first in cc)
  alone_once (Unmade first over) (Failing {f = f} {own = own} second) = (let clash = sym first ∙ second in cc)
  alone_once (Unmade first over) (Unmade second again) = refl
  alone_once (Unmade first over) (Full second fits none) = absurd (omega (arith, same_elements first second))
  alone_once (Unmade first over) (Later second fits leads stops) = absurd (omega (arith, same_elements first second))
  alone_once (Full first fits none) (Failing {f = f} {own = own} second) = (let clash = sym first ∙ second in cc)
  alone_once (Full first fits none) (Unmade second over) = absurd (omega (arith, same_elements first second))
  alone_once (Full first fits none) (Full second fit again) = refl
  alone_once (Full {f = f} {fs = fs} first fits none) (Later {gs = gs} second fit leads stops) =
      let clash : None ≡ Some gs = same_of (λ (x : Move). moved x f fs) first second none leads in cc
  alone_once (Later first fits leads stops) (Failing {f = f} {own = own} second) =
      (let clash = sym first ∙ second in cc)
  alone_once (Later first fits leads stops) (Unmade second over) = absurd (omega (arith, same_elements first second))
  alone_once (Later {f = f} {fs = fs} {gs = gs} first fits leads stops) (Full second fit none) =
      let clash : Some gs ≡ None = same_of (λ (x : Move). moved x f fs) first second leads none in cc
  alone_once (Later {f = f} {fs = fs} {budget = budget} first fits leads stops) (Later second fit again halts) =
      alone_once stops (stops_as budget (same_frames f fs first second leads again) (same_move first second) halts)

-- ---- initializers

small_from_big_stop : (P : Program) (env : Environment) (c budget : ℕ) (stop : Stop) →
    StoppedBy P env c budget stop → StoppedAlone P env c budget stop
small_from_big_stop P env c budget stop = by_body (P.initializer c)
  where
    by_body : (o : Option Frame) → StoppedAt P env c o budget stop
        → StopsAlone P env c (body o) (constant_region P c) budget stop
    by_body None stopped = absurd stopped
    by_body (Some f) stopped = small_stops P env c stopped []

pub big_from_small_stop : (P : Program) (env : Environment) (c budget : ℕ) (stop : Stop) →
    StoppedAlone P env c budget stop → StoppedBy P env c budget stop
big_from_small_stop P env c budget stop stopped = elim (settles_or_stops_lem P env c budget) [
  | inl (n, region, settles, within) ↦
      absurd (alone_excludes P env c (small_from_big P env c n region settles) stopped within)
  | inr (other, stops) ↦
      subst (StoppedBy P env c budget)
      (alone_once P env c (small_from_big_stop P env c budget other stops) stopped) stops
]

pub stops_agree_lem : StopsAgree
stops_agree_lem P env c budget stop = (
  small_from_big_stop P env c budget stop,
  big_from_small_stop P env c budget stop,
)
