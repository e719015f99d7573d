-- What a class's initializer leaves when it runs at build time, in big steps: a call is one whole body. And why it is
-- refused.
use Rattle.std.specs.Prelude.{◌≡◌, ◌⊎◌, ℕ, suc, ◌+◌, ◌-◌, ◌<◌, ◌≤◌, Option, Some, None}
use Rattle.vm_state.specs.declared.value.Value.{Value}
use Rattle.vm_state.specs.declared.frame.Frame.{Frame}
use Rattle.vm_state.specs.Operands.{OperandStack}
use Rattle.vm_state.specs.SharedState.{Region}
use Rattle.vm_state.specs.Statics.{with_constants}
use Rattle.semantics.specs.Rows.{Move, Stays, Becomes, Calls, Returns}
use Rattle.semantics.specs.Moves.{with_operands, received}
use Rattle.semantics.specs.Programs.{Program}
use Rattle.semantics.specs.Quiet.{Environment, QuietMove, OverBudget, Faulted, Stop, Refused, Leaves, Stops}
use Rattle.semantics.specs.Quiet.{quiet_step}
use Rattle.semantics.specs.Worlds.{blank_region}

-- statics that are zero or null, with the ConstantValues set (JVMS 5.5, step 6)
abbrev pub constant_region : Program → ℕ → Region
constant_region P c = record (blank_region P c) { fields = with_constants (P.statics c) (blank_region P c).fields }

-- ---- settled

-- the frame that goes on after a move, where neither it returns nor another is called
abbrev pub onward : Move → Frame → Option Frame
onward (Stays place locals operands) f = Some (record f { place = place; locals = locals; operands = operands })
onward (Becomes g) f = Some g
onward (Calls operands g) f = None
onward (Returns v) f = None

-- The body of a frame runs from here to its end by quiet instructions, at this cost, and this value is returned and
-- this region stands then. An instruction costs 1, and 1 more for each element of an array that it makes.
pub data RunsBody (P : Program) (env : Environment) (c : ℕ) : Frame → Region → ℕ → Option Value → Region → Type 0 where
  -- by its last instruction, which returns
  ByReturn : {f : Frame} {own : Region} {m : QuietMove} {v : Option Value} →
      quiet_step P env c f own ≡ Leaves m → m.move ≡ Returns v → RunsBody P env c f own (1 + m.elements) v m.region
  -- by an instruction in the body, and the rest of the body
  ByStep : {f g : Frame} {own last : Region} {m : QuietMove} {n : ℕ} {v : Option Value} →
      quiet_step P env c f own ≡ Leaves m → onward m.move f ≡ Some g →
      RunsBody P env c g m.region n v last → RunsBody P env c f own (1 + m.elements + n) v last
  -- by a call, the whole body that it calls, and the rest of the body
  ByCall : {f g callee : Frame} {operands : OperandStack} {own back last : Region} {m : QuietMove} {n k : ℕ}
      {v result : Option Value} →
      quiet_step P env c f own ≡ Leaves m → m.move ≡ Calls operands callee →
      RunsBody P env c callee m.region n result back → received result (with_operands f operands) ≡ Some g →
      RunsBody P env c g back k v last → RunsBody P env c f own (1 + m.elements + (n + k)) v last

abbrev pub SettlesBy : Program → Environment → ℕ → Option Frame → ℕ → Region → Type 0
SettlesBy P env c None n region = (n ≡ 0) × (constant_region P c ≡ region)
SettlesBy P env c (Some f) n region = (v : Option Value) × RunsBody P env c f (constant_region P c) n v region

-- A class's initializer, with these regions of other classes at hand, leaves this region at this cost.
abbrev pub Settles : Program → Environment → ℕ → ℕ → Region → Type 0
Settles P env c n region = SettlesBy P env c (P.initializer c) n region

-- ---- stopped

-- the frame on top after a move, where it does not return
abbrev pub entered : Move → Frame → Option Frame
entered (Stays place locals operands) f = Some (record f { place = place; locals = locals; operands = operands })
entered (Becomes g) f = Some g
entered (Calls operands g) f = Some g
entered (Returns v) f = None

-- After a row of quiet instructions within this budget, the next instruction of this frame's body, or of one that it
-- calls, is stopped.
pub data StopsBody (P : Program) (env : Environment) (c : ℕ) : Frame → Region → ℕ → Stop → Type 0 where
  -- before the instruction, which costs 1
  Before : {f : Frame} {own : Region} → StopsBody P env c f own 0 (Refused OverBudget)
  -- at its first failing check
  At : {f : Frame} {own : Region} {budget : ℕ} {stop : Stop} →
      quiet_step P env c f own ≡ Stops stop → StopsBody P env c f own (suc budget) stop
  -- before the elements of the arrays that it makes
  Making : {f : Frame} {own : Region} {m : QuietMove} {budget : ℕ} →
      quiet_step P env c f own ≡ Leaves m → budget < m.elements →
      StopsBody P env c f own (suc budget) (Refused OverBudget)
  -- later, in this body or in one that it calls
  Inside : {f g : Frame} {own : Region} {m : QuietMove} {budget : ℕ} {stop : Stop} →
      quiet_step P env c f own ≡ Leaves m → entered m.move f ≡ Some g → m.elements ≤ budget →
      StopsBody P env c g m.region (budget - m.elements) stop → StopsBody P env c f own (suc budget) stop
  -- at the return from the body that it calls, as there is no room for the value
  NoRoom : {f callee : Frame} {operands : OperandStack} {own back : Region} {m : QuietMove} {n budget : ℕ}
      {result : Option Value} →
      quiet_step P env c f own ≡ Leaves m → m.move ≡ Calls operands callee →
      RunsBody P env c callee m.region n result back →
      m.elements + n ≤ budget → received result (with_operands f operands) ≡ None →
      StopsBody P env c f own (suc budget) (Refused Faulted)
  -- later, after the whole body that it calls
  AfterCall : {f g callee : Frame} {operands : OperandStack} {own back : Region} {m : QuietMove} {n budget : ℕ}
      {result : Option Value} {stop : Stop} →
      quiet_step P env c f own ≡ Leaves m → m.move ≡ Calls operands callee →
      RunsBody P env c callee m.region n result back →
      m.elements + n ≤ budget → received result (with_operands f operands) ≡ Some g →
      StopsBody P env c g back (budget - (m.elements + n)) stop → StopsBody P env c f own (suc budget) stop

abbrev pub StoppedAt : Program → Environment → ℕ → Option Frame → ℕ → Stop → Type 0
StoppedAt P env c None budget stop = ⊥
StoppedAt P env c (Some f) budget stop = StopsBody P env c f (constant_region P c) budget stop

-- A class's initializer is stopped so, within this budget.
abbrev pub StoppedBy : Program → Environment → ℕ → ℕ → Stop → Type 0
StoppedBy P env c budget stop = StoppedAt P env c (P.initializer c) budget stop

-- ---- laws

-- An initializer that settles within a budget is not stopped within it.
abbrev pub StopExcludes : Type 0
StopExcludes =
    (P : Program) (env : Environment) (c n budget : ℕ) (region : Region) (stop : Stop) →
    Settles P env c n region → n ≤ budget → StoppedBy P env c budget stop → ⊥

-- An initializer is stopped by one thing: refused for one reason, or barred.
abbrev pub OneStop : Type 0
OneStop =
    (P : Program) (env : Environment) (c budget : ℕ) (stop other : Stop) →
    StoppedBy P env c budget stop → StoppedBy P env c budget other → stop ≡ other

-- Each initializer settles within a budget or is stopped within it.
abbrev pub SettlesOrStops : Type 0
SettlesOrStops =
    (P : Program) (env : Environment) (c budget : ℕ) →
    ((n : ℕ) × (region : Region) × Settles P env c n region × (n ≤ budget))
    ⊎ ((stop : Stop) × StoppedBy P env c budget stop)
