-- An initializer that settles within a budget is not stopped within it, one that does not is stopped, and by one thing.
use Rattle.std.proofs.Common.{◌≡◌, ◌⊎◌, inl, inr, ℕ, zero, suc, ◌+◌, ◌-◌, ◌<◌, ◌≤◌, Option, Some, None}
use Rattle.std.proofs.Common.{refl, sym, ap, ap₂, subst₂, ◌∙◌, arith}
use Rattle.std.proofs.Math.Path.{subst₃}
use Rattle.std.proofs.lemmas.Bool.{cases_lt}
use Rattle.vm_state.specs.declared.value.Value.{Value}
use Rattle.vm_state.specs.declared.frame.Frame.{Frame}
use Rattle.vm_state.specs.Operands.{OperandStack}
use Rattle.vm_state.specs.SharedState.{Region}
use Rattle.semantics.specs.Rows.{Move, Stays, Becomes, Calls, Returns}
use Rattle.semantics.specs.Moves.{with_operands, received}
use Rattle.semantics.specs.Programs.{Program}
use Rattle.semantics.specs.Quiet.{Environment, QuietMove, Stop, Conduct, Leaves, Stops, quiet_step}
use Rattle.semantics.specs.Settling.{constant_region, onward, entered, RunsBody, ByReturn, ByStep, ByCall, SettlesBy}
use Rattle.semantics.specs.Settling.{StopsBody, Before, At, Making, Inside, NoRoom, AfterCall, StoppedAt, StopExcludes}
use Rattle.semantics.specs.Settling.{OneStop, SettlesOrStops}
use Rattle.semantics.proofs.TestsLemmas.{from_some}
use Rattle.semantics.proofs.FrameMovesLemmas.{onward_entered}
use Rattle.semantics.proofs.OneRunLemmas.{same_move, same_elements, same_of, same_way, same_callee, same_back}
use Rattle.semantics.proofs.OneRunLemmas.{after_same}
use Rattle.semantics.proofs.OneRunLemmas.{body_once}

module _ (P : Program) (env : Environment) (c : ℕ) where
  -- ---- bodies

  -- a body begins with a quiet instruction, which its cost covers
  first_move : {f : Frame} {own last : Region} {n : ℕ} {v : Option Value} → RunsBody P env c f own n v last →
      (m : QuietMove) × (quiet_step P env c f own ≡ Leaves m) × (m.elements < n)
  first_move (ByReturn {m = m} moves is) = (m, moves, omega arith)
  first_move (ByStep {m = m} moves is on) = (m, moves, omega arith)
  first_move (ByCall {m = m} moves is called back on) = (m, moves, omega arith)

  enters : (f : Frame) {g h : Frame} {o : Conduct} {m move : QuietMove} → o ≡ Leaves m → o ≡ Leaves move →
      entered m.move f ≡ Some g → entered move.move f ≡ Some h → g ≡ h
  enters f first second is again = from_some (same_of (λ (x : Move). entered x f) first second is again)

  enters_call : {move : Move} {operands : OperandStack} {callee : Frame} (f : Frame) → move ≡ Calls operands callee →
      entered move f ≡ Some callee
  enters_call f is = ap (λ (x : Move). entered x f) is

  -- a body that runs within the budget does not stop
  pub stops_or_runs : {f : Frame} {own last : Region} {n budget : ℕ} {v : Option Value} {stop : Stop} →
      StopsBody P env c f own budget stop → RunsBody P env c f own n v last → n ≤ budget → ⊥
  stops_or_runs Before run within = omega (arith, (first_move run).2)
  stops_or_runs (At {f = f} {own = own} stops) run within =
      (let moves = (first_move run).1 in let clash = sym moves ∙ stops in cc)
  stops_or_runs (Making moves over) run within =
      omega (arith, (first_move run).2, same_elements moves (first_move run).1)
  stops_or_runs (Inside {f = f} {g = g} moves deep fits stops) (ByReturn first is) within =
      let clash : Some g ≡ None =
      same_of (λ (x : Move). entered x f) moves first deep (ap (λ (x : Move). entered x f) is) in cc
  stops_or_runs (Inside {f = f} moves deep fits stops) (ByStep {g = g} {m = m} first is on) within =
      stops_or_runs stops (after_same P env c (enters f moves first deep (onward_entered m.move f g is))
      (same_move moves first) on)
      (omega (arith, same_elements moves first))
  stops_or_runs (Inside {f = f} moves deep fits stops) (ByCall first is called back on) within =
      stops_or_runs stops (after_same P env c (enters f moves first deep (enters_call f is))
      (same_move moves first) called)
      (omega (arith, same_elements moves first))
  stops_or_runs (NoRoom moves is body fits full) (ByReturn first again) within =
      (let clash = same_way moves first is again in cc)
  stops_or_runs (NoRoom {f = f} moves is body fits full) (ByStep {g = g} first again on) within =
      let clash : None ≡ Some g =
      same_of (λ (x : Move). onward x f) moves first (ap (λ (x : Move). onward x f) is) again in cc
  stops_or_runs (NoRoom {f = f} moves is body fits full) (ByCall {g = g} first again called back on) within =
      let way = same_way moves first is again in
      let one = body_once P env c body (after_same P env c (same_callee way) (same_move moves first) called) in
      let clash : None ≡ Some g = same_back f way one.1 full back in cc
  stops_or_runs (AfterCall moves is body fits room stops) (ByReturn first again) within =
      (let clash = same_way moves first is again in cc)
  stops_or_runs (AfterCall {f = f} moves is body fits room stops) (ByStep {g = g} first again on) within =
      let clash : None ≡ Some g =
      same_of (λ (x : Move). onward x f) moves first (ap (λ (x : Move). onward x f) is) again in cc
  stops_or_runs {last = last} {v = v} (AfterCall {f = f} moves is body fits room stops)
      (ByCall {k = k} first again called back on) within =
      let way = same_way moves first is again in
      let one = body_once P env c body (after_same P env c (same_callee way) (same_move moves first) called) in
      let frame = from_some (same_back f way one.1 room back) in
      stops_or_runs stops (subst₂ (λ g r. RunsBody P env c g r k v last) (sym frame) (sym one.2) on)
      (omega (arith, same_elements moves first, one.0))

  -- a body stops for one reason
  pub stops_once : {f : Frame} {own : Region} {budget : ℕ} {stop other : Stop} →
      StopsBody P env c f own budget stop → StopsBody P env c f own budget other → stop ≡ other
  stops_once Before Before = refl
  stops_once (At first) (At second) = cc (sym first ∙ second)
  stops_once (At {f = f} {own = own} first) (Making moves over) = (let clash = sym moves ∙ first in cc)
  stops_once (At {f = f} {own = own} first) (Inside moves deep fits stops) = (let clash = sym moves ∙ first in cc)
  stops_once (At {f = f} {own = own} first) (NoRoom moves is body fits full) = (let clash = sym moves ∙ first in cc)
  stops_once (At {f = f} {own = own} first) (AfterCall moves is body fits room stops) =
      (let clash = sym moves ∙ first in cc)
  stops_once (Making moves over) (At {f = f} {own = own} second) = (let clash = sym moves ∙ second in cc)
  stops_once (Making moves over) (Making second again) = refl
  stops_once (Making moves over) (Inside second deep fits stops) = absurd (omega (arith, same_elements moves second))
  stops_once (Making moves over) (NoRoom second is body fits full) = absurd (omega (arith, same_elements moves second))
  stops_once (Making moves over) (AfterCall second is body fits room stops) =
      absurd (omega (arith, same_elements moves second))
  stops_once (Inside moves deep fits stops) (At {f = f} {own = own} second) = (let clash = sym moves ∙ second in cc)
  stops_once (Inside moves deep fits stops) (Making second over) = absurd (omega (arith, same_elements moves second))
  stops_once {other = other} (Inside {f = f} {budget = budget} moves deep fits stops) (Inside second high room halts) =
      let frame = enters f moves second deep high in
      let same = same_move moves second in
      stops_once stops (subst₃ (λ n g r. StopsBody P env c g r (budget - n) other) (sym (same_elements moves second))
      (sym frame)
      (sym (ap (λ (x : QuietMove). x.region) same)) halts)
  stops_once (Inside {f = f} moves deep fits stops) (NoRoom second is body room full) =
      absurd
      (stops_or_runs stops (after_same P env c (enters f moves second deep (enters_call f is))
      (same_move moves second) body)
      (omega (arith, same_elements moves second)))
  stops_once (Inside {f = f} moves deep fits stops) (AfterCall second is body fit room halts) =
      absurd
      (stops_or_runs stops (after_same P env c (enters f moves second deep (enters_call f is))
      (same_move moves second) body)
      (omega (arith, same_elements moves second)))
  stops_once (NoRoom moves is body fits full) (At {f = f} {own = own} second) = (let clash = sym moves ∙ second in cc)
  stops_once (NoRoom moves is body fits full) (Making second over) = absurd (omega (arith, same_elements moves second))
  stops_once (NoRoom {f = f} moves is body fits full) (Inside second deep room halts) =
      absurd
      (stops_or_runs halts (after_same P env c (enters f second moves deep (enters_call f is))
      (same_move second moves) body)
      (omega (arith, same_elements moves second)))
  stops_once (NoRoom moves is body fits full) (NoRoom second again whole fit filled) = refl
  stops_once (NoRoom {f = f} moves is body fits full) (AfterCall {g = g} second again whole fit room halts) =
      let way = same_way moves second is again in
      let one = body_once P env c body (after_same P env c (same_callee way) (same_move moves second) whole) in
      let clash : None ≡ Some g = same_back f way one.1 full room in cc
  stops_once (AfterCall moves is body fits room stops) (At {f = f} {own = own} second) =
      (let clash = sym moves ∙ second in cc)
  stops_once (AfterCall moves is body fits room stops) (Making second over) =
      absurd (omega (arith, same_elements moves second))
  stops_once (AfterCall {f = f} moves is body fits room stops) (Inside second deep fit halts) =
      absurd
      (stops_or_runs halts (after_same P env c (enters f second moves deep (enters_call f is))
      (same_move second moves) body)
      (omega (arith, same_elements moves second)))
  stops_once (AfterCall {f = f} {g = g} moves is body fits room stops) (NoRoom second again whole fit full) =
      let way = same_way moves second is again in
      let one = body_once P env c body (after_same P env c (same_callee way) (same_move moves second) whole) in
      let clash : Some g ≡ None = same_back f way one.1 room full in cc
  stops_once {other = other} (AfterCall {f = f} {budget = budget} moves is body fits room stops)
      (AfterCall second again whole fit back halts) =
      let way = same_way moves second is again in
      let one = body_once P env c body (after_same P env c (same_callee way) (same_move moves second) whole) in
      let cost = ap₂ ◌+◌ (same_elements moves second) one.0 in
      let frame = from_some (same_back f way one.1 room back) in
      stops_once stops (subst₃ (λ n g r. StopsBody P env c g r (budget - n) other) (sym cost) (sym frame)
      (sym one.2) halts)

  -- ---- each body runs or stops

  data Ends (f : Frame) (own : Region) (budget : ℕ) : Type 0 where
    Runs : {n : ℕ} {v : Option Value} {last : Region} → RunsBody P env c f own n v last → n ≤ budget → Ends f own budget
    Halts : {stop : Stop} → StopsBody P env c f own budget stop → Ends f own budget

  abbrev EndWithin : ℕ → Type 0
  EndWithin budget = (b : ℕ) → b ≤ budget → (g : Frame) (r : Region) → Ends g r b

  after_step : (budget : ℕ) → EndWithin budget → (f g : Frame) (own : Region) (m : QuietMove)
      → quiet_step P env c f own ≡ Leaves m →
      m.elements ≤ budget → onward m.move f ≡ Some g → Ends f own (suc budget)
  after_step budget ends f g own m moves fits is = elim (ends (budget - m.elements) (omega arith) g m.region) [
    | Runs run within ↦ Runs (ByStep moves is run) (omega arith)
    | Halts stops ↦ Halts (Inside moves (onward_entered m.move f g is) fits stops)
  ]

  after_call : (budget : ℕ) → EndWithin budget → (f callee : Frame) (operands : OperandStack) (own : Region)
      (m : QuietMove) →
      quiet_step P env c f own ≡ Leaves m → m.elements ≤ budget → m.move ≡ Calls operands callee
      → Ends f own (suc budget)
  after_call budget ends f callee operands own m moves fits is =
      elim (ends (budget - m.elements) (omega arith) callee m.region) [
        | Runs {n = n} {v = v} {last = back} run within ↦ by_room n v back run (omega arith)
            (received v (with_operands f operands)) refl
        | Halts stops ↦ Halts (Inside moves (enters_call f is) fits stops)
      ]
    where
      by_room : (n : ℕ) (v : Option Value) (back : Region) → RunsBody P env c callee m.region n v back
          → m.elements + n ≤ budget →
          (o : Option Frame) → received v (with_operands f operands) ≡ o → Ends f own (suc budget)
      by_room n v back run within None room = Halts (NoRoom moves is run within room)
      by_room n v back run within (Some g) room = elim (ends (budget - (m.elements + n)) (omega arith) g back) [
        | Runs rest fit ↦ Runs (ByCall moves is run room rest) (omega arith)
        | Halts stops ↦ Halts (AfterCall moves is run within room stops)
      ]

  after_move : (budget : ℕ) → EndWithin budget → (f : Frame) (own : Region) (m : QuietMove)
      → quiet_step P env c f own ≡ Leaves m →
      m.elements ≤ budget → (move : Move) → m.move ≡ move → Ends f own (suc budget)
  after_move budget ends f own m moves fits (Stays place locals operands) is =
      after_step budget ends f _ own m moves fits (ap (λ (x : Move). onward x f) is)
  after_move budget ends f own m moves fits (Becomes g) is =
      after_step budget ends f g own m moves fits (ap (λ (x : Move). onward x f) is)
  after_move budget ends f own m moves fits (Calls operands callee) is =
      after_call budget ends f callee operands own m moves fits is
  after_move budget ends f own m moves fits (Returns v) is = Runs (ByReturn moves is) (omega arith)

  after_conduct : (budget : ℕ) → EndWithin budget → (f : Frame) (own : Region) (o : Conduct)
      → quiet_step P env c f own ≡ o →
      Ends f own (suc budget)
  after_conduct budget ends f own (Stops stop) is = Halts (At is)
  after_conduct budget ends f own (Leaves m) is = elim (cases_lt budget m.elements) [
    | inl over ↦ Halts (Making is over)
    | inr fits ↦ after_move budget ends f own m is fits m.move refl
  ]

  ends_within : (most budget : ℕ) → budget < most → (f : Frame) (own : Region) → Ends f own budget
  ends_within zero budget less f own = absurd (omega arith)
  ends_within (suc most) zero less f own = Halts Before
  ends_within (suc most) (suc budget) less f own =
      after_conduct budget (λ b fits g r. ends_within most b (omega arith) g r) f own (quiet_step P env c f own) refl

  pub settles_or_stops : (budget : ℕ) (o : Option Frame) →
      ((n : ℕ) × (region : Region) × SettlesBy P env c o n region × (n ≤ budget))
      ⊎ ((stop : Stop) × StoppedAt P env c o budget stop)
  settles_or_stops budget None = inl (0, constant_region P c, (refl, refl), omega arith)
  settles_or_stops budget (Some f) = elim (ends_within (suc budget) budget (omega arith) f (constant_region P c)) [
    | Runs {n = n} {v = v} {last = last} run within ↦ inl (n, last, (v, run), within)
    | Halts {stop = stop} stops ↦ inr (stop, stops)
  ]

-- ---- initializers

pub stop_excludes_lem : StopExcludes
stop_excludes_lem P env c n budget region stop = by_body (P.initializer c)
  where
    by_body : (o : Option Frame) → SettlesBy P env c o n region → n ≤ budget → StoppedAt P env c o budget stop → ⊥
    by_body None settled within stopped = stopped
    by_body (Some f) settled within stopped = stops_or_runs P env c stopped settled.1 within

pub one_stop_lem : OneStop
one_stop_lem P env c budget stop other = by_body (P.initializer c)
  where
    by_body : (o : Option Frame) → StoppedAt P env c o budget stop → StoppedAt P env c o budget other → stop ≡ other
    by_body None first second = absurd first
    by_body (Some f) first second = stops_once P env c first second

pub settles_or_stops_lem : SettlesOrStops
settles_or_stops_lem P env c budget = settles_or_stops P env c budget (P.initializer c)
