-- An initializer has one run: it leaves one region, at one cost.
use Rattle.std.proofs.Common.{◌≡◌, ℕ, ◌+◌, List, Option, Some, None, refl, sym, ap, ap₂, subst₂, ◌∙◌}
use Rattle.vm_state.specs.declared.value.Value.{Value}
use Rattle.vm_state.specs.declared.frame.Frame.{Frame}
use Rattle.vm_state.specs.Operands.{OperandStack}
use Rattle.vm_state.specs.SharedState.{Region}
use Rattle.semantics.specs.Rows.{Move, Calls}
use Rattle.semantics.specs.Moves.{with_operands, received, moved}
use Rattle.semantics.specs.Programs.{Program}
use Rattle.semantics.specs.Quiet.{Environment, QuietMove, Conduct, Leaves}
use Rattle.semantics.specs.Settling.{onward, RunsBody, ByReturn, ByStep, ByCall, Settles}
use Rattle.semantics.specs.Alone.{RunsAlone, Over, Step}
use Rattle.semantics.proofs.TestsLemmas.{from_some}
use Rattle.semantics.proofs.BigStepsLemmas.{small_from_big}

-- ---- moves of one instruction

pub same_move : {o : Conduct} {m move : QuietMove} → o ≡ Leaves m → o ≡ Leaves move → m ≡ move
same_move first second = cc

pub same_elements : {o : Conduct} {m move : QuietMove} → o ≡ Leaves m → o ≡ Leaves move → m.elements ≡ move.elements
same_elements first second = ap (λ (x : QuietMove). x.elements) (same_move first second)

-- what a function says of two equal moves
pub same_of : {A : Type 0} (on : Move → A) {o : Conduct} {m move : QuietMove} {a b : A} → o ≡ Leaves m → o ≡ Leaves move
    →
    on m.move ≡ a → on move.move ≡ b → a ≡ b
same_of on first second is again = sym is ∙ (ap (λ (x : QuietMove). on x.move) (same_move first second) ∙ again)

-- two equal moves are of one kind
pub same_way : {o : Conduct} {m move : QuietMove} {a b : Move} → o ≡ Leaves m → o ≡ Leaves move → m.move ≡ a
    → move.move ≡ b → a ≡ b
same_way first second is again = same_of (λ (x : Move). x) first second is again

pub same_callee : {operands more : OperandStack} {callee other : Frame} → Calls operands callee ≡ Calls more other
    → callee ≡ other
same_callee same = cc

-- the caller after one of two equal calls
pub same_back : (f : Frame) {operands more : OperandStack} {callee other : Frame} {v w : Option Value}
    {o p : Option Frame} →
    Calls operands callee ≡ Calls more other → v ≡ w → received v (with_operands f operands) ≡ o
    → received w (with_operands f more) ≡ p → o ≡ p
same_back f {operands = operands} {more = more} same value first second =
    let left : operands ≡ more = cc in sym first ∙ (ap₂ (λ u s. received u (with_operands f s)) value left ∙ second)

module _ (P : Program) (env : Environment) (c : ℕ) where
  -- ---- small steps

  pub alone_once : {fs : List Frame} {own last other : Region} {n k : ℕ} →
      RunsAlone P env c fs own n last → RunsAlone P env c fs own k other → (n ≡ k) × (last ≡ other)
  alone_once Over Over = (refl, refl)
  alone_once {other = other} (Step {f = f} {fs = fs} first leads on) (Step {n = k} second ends rest) =
      let same = same_move first second in
      let frames = from_some (same_of (λ (x : Move). moved x f fs) first second leads ends) in
      let later = alone_once on
      (subst₂ (λ gs r. RunsAlone P env c gs r k other) (sym frames) (sym (ap (λ (x : QuietMove). x.region) same))
      rest) in
      (cc (same, later.0), later.1)

  pub settles_once : (n k : ℕ) (first second : Region) → Settles P env c n first → Settles P env c k second → (n ≡ k)
      × (first ≡ second)
  settles_once n k first second one other =
      alone_once (small_from_big P env c n first one) (small_from_big P env c k second other)

  -- ---- big steps

  -- a run of a frame after one of two equal moves, after the other
  pub after_same : {g h : Frame} {m move : QuietMove} {k : ℕ} {v : Option Value} {other : Region} → g ≡ h → m ≡ move →
      RunsBody P env c h move.region k v other → RunsBody P env c g m.region k v other
  after_same {k = k} {v = v} {other = other} frame same run =
      subst₂ (λ h r. RunsBody P env c h r k v other) (sym frame) (sym (ap (λ (x : QuietMove). x.region) same)) run

  pub body_once : {f : Frame} {own last other : Region} {n k : ℕ} {v w : Option Value} →
      RunsBody P env c f own n v last → RunsBody P env c f own k w other → (n ≡ k) × (v ≡ w) × (last ≡ other)
  body_once (ByReturn first is) (ByReturn second again) =
      let same = same_move first second in (
        ap (λ (x : QuietMove). 1 + x.elements) same,
        cc (same_way first second is again),
        ap (λ (x : QuietMove). x.region) same,
      )
  body_once (ByReturn {f = f} {v = v} first is) (ByStep {g = g} second again rest) =
      let clash : None ≡ Some g =
      same_of (λ (x : Move). onward x f) first second (ap (λ (x : Move). onward x f) is) again in cc
  body_once (ByReturn first is) (ByCall second again called back rest) =
      (let clash = same_way first second is again in cc)
  body_once (ByStep {f = f} {g = g} first is on) (ByReturn second again) =
      let clash : Some g ≡ None =
      same_of (λ (x : Move). onward x f) first second is (ap (λ (x : Move). onward x f) again) in cc
  body_once (ByStep {f = f} first is on) (ByStep second again rest) =
      let same = same_move first second in
      let later =
      body_once on (after_same (from_some (same_of (λ (x : Move). onward x f) first second is again)) same rest) in
      (cc (same, later.0), later.1, later.2)
  body_once (ByStep {f = f} {g = g} first is on) (ByCall second again called back rest) =
      let clash : Some g ≡ None =
      same_of (λ (x : Move). onward x f) first second is (ap (λ (x : Move). onward x f) again) in cc
  body_once (ByCall first is called back on) (ByReturn second again) =
      (let clash = same_way first second is again in cc)
  body_once (ByCall {f = f} first is called back on) (ByStep {g = g} second again rest) =
      let clash : None ≡ Some g =
      same_of (λ (x : Move). onward x f) first second (ap (λ (x : Move). onward x f) is) again in cc
  body_once {other = other} {w = w} (ByCall {f = f} first is called back on)
      (ByCall {k = k} second again call room rest) =
      let same = same_move first second in
      let way = same_way first second is again in
      let one = body_once called (after_same (same_callee way) same call) in
      let frame = from_some (same_back f way one.1 back room) in
      let later = body_once on (subst₂ (λ h r. RunsBody P env c h r k w other) (sym frame) (sym one.2) rest) in
      (cc (same, one.0, later.0), later.1, later.2)
