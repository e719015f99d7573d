-- Which names an initializer that runs alone comes to know: those of its own objects, and those that finals at hand
-- hold.
use Rattle.std.proofs.Common.{◌≡◌, inl, inr, ℕ, Bool, true, false, cond, List, [], ◌∷◌, Option, Some, None, ◌==◌}
use Rattle.std.proofs.Common.{refl, sym, subst, ◌∙◌, ◌+◌, eqb-true, eq-eqb, option_map}
use Rattle.vm_state.specs.declared.value.Value.{Value}
use Rattle.vm_state.specs.declared.value.Maker.{Maker}
use Rattle.vm_state.specs.declared.value.Maker.TheVariants.{Class, Thread}
use Rattle.vm_state.specs.declared.frame.Frame.{Frame}
use Rattle.vm_state.specs.Operands.{OperandStack}
use Rattle.vm_state.specs.SharedState.{Pool, Region, same_maker, with_field}
use Rattle.semantics.specs.Rows.{Move, Stays, Becomes, Calls, Returns, Next, Raise, Halt, Row, Ends}
use Rattle.semantics.specs.Rows.{UseClass, ReadStatic, WriteStatic, AskClass, LookInto, Change}
use Rattle.semantics.specs.Rows.{Make, UseMonitor, Print, Part, Named, part_at}
use Rattle.semantics.specs.Moves.{with_operands, received}
use Rattle.semantics.specs.Programs.{Program}
use Rattle.semantics.specs.Quiet.{Environment, is_final, pool_seen, QuietMove, Refused, Barred, ForeignObject, Conduct}
use Rattle.semantics.specs.Quiet.{Leaves, Stops, is_open, at_hand, if_fixed, fixed_at, elements_in, quiet}
use Rattle.semantics.specs.Quiet.{quiet_step}
use Rattle.semantics.specs.Settling.{constant_region, onward, entered, RunsBody, ByReturn, ByStep, ByCall, SettlesBy}
use Rattle.semantics.specs.Settling.{Settles}
use Rattle.semantics.specs.Lawful.{Names, Knows, KnowsSome, KnowsSlots, KnowsFrame, KnowsMove, Fits, IsLawful}
use Rattle.vm_state.proofs.ListLemmas.{tested}
use Rattle.semantics.proofs.TestsLemmas.{from_some}
use Rattle.semantics.proofs.PoolsLemmas.{Holds, with_slot-holds, with_new-holds, part_at-holds, fixed-known}
use Rattle.semantics.proofs.ConstantsLemmas.{zeros_known, constants_known}
use Rattle.semantics.proofs.FrameMovesLemmas.{onward_moved, moved_known, received_known}

abbrev pub KnowsRegion : Names → Region → Type 0
KnowsRegion known r = ((f : ℕ) → Knows known (r.fields f)) × Holds known r.pool

-- the region in which c's initializer begins
pub constant_region_known : (P : Program) → IsLawful P → (known : Names) (c : ℕ)
    → KnowsRegion known (constant_region P c)
constant_region_known P lawful known c = (
  λ f. constants_known known (P.statics c) (lawful.statics c) f _
      (zeros_known known (P.statics c) (lawful.statics c) f),
  λ n. tt,
)

pub entered_known : (known : Names) (move : Move) (f g : Frame) → KnowsMove known move → KnowsFrame known f
    → entered move f ≡ Some g → KnowsFrame known g
entered_known known (Stays place locals operands) f g km k e = subst (KnowsFrame known) (from_some e) km
entered_known known (Becomes h) f g km k e = subst (KnowsFrame known) (from_some e) km
entered_known known (Calls operands h) f g km k e = subst (KnowsFrame known) (from_some e) km.1
entered_known known (Returns v) f g km k e = cc

module _ (known : Names) where
  -- a region in which a known value is written
  pub field_known : (r : Region) (f : ℕ) (v : Value) → KnowsRegion known r → Knows known v
      → KnowsRegion known (with_field r f v)
  field_known r f v k kv = (
    λ g. elim (tested (g == f)) [ inl e ↦ rw e kv | inr e ↦ rw e (k.0 g) ],
    k.1,
  )

  -- a caller goes on with what was returned
  pub back_known : (f g : Frame) (operands : OperandStack) (callee : Frame) (move : Move) (result : Option Value)
      → KnowsFrame known f → KnowsMove known move → move ≡ Calls operands callee → KnowsSome known result
      → received result (with_operands f operands) ≡ Some g → KnowsFrame known g
  back_known f g operands callee move result k km is kv back =
      let both = subst (KnowsMove known) is km in
      received_known known result kv (with_operands f operands) g (both.0, k.1) back

-- a row that was given known names alone
abbrev pub Suits : Program → Names → Row → Type 0
Suits P known row = Fits P known (λ d. true) row

pub frame_suits : (P : Program) → IsLawful P → (known : Names) (f : Frame) → KnowsFrame known f
    → Suits P known (P.row f)
frame_suits P lawful known f k = lawful.row known (λ d. true) f k (λ d is. refl)

-- a pool at hand that is not c's is of a region at hand
pub pool_of_other : (env : Environment) (c : ℕ) (own : Region) (m : Maker) (p : Pool) → same_maker (Class c) m ≡ false
    → pool_seen env c own m ≡ Some p → (d : ℕ) × (r : Region) × (env d ≡ Some r) × (r.pool ≡ p)
pool_of_other env c own (Thread t) p other is = cc
pool_of_other env c own (Class d) p other is = elim (tested (d == c)) [
  | inl e ↦ (let clash : false ≡ true = sym other ∙ eq-eqb c d (sym (eqb-true d c e)) in cc)
  | inr e ↦ of_region (env d) refl (rw e at is)
]
  where
    of_region : (o : Option Region) → env d ≡ o → option_map (λ (r : Region). r.pool) o ≡ Some p
        → (d : ℕ) × (r : Region) × (env d ≡ Some r) × (r.pool ≡ p)
    of_region None at h = cc
    of_region (Some r) at h = (d, r, at, from_some h)

-- c's own objects are known, and so is what finals and Enum objects at hand hold
pub record Suffices (P : Program) (env : Environment) (c : ℕ) (known : Names) : Type 0 where
  pub own : (n : ℕ) → known (record { maker = Class c; number = n }) ≡ true
  pub finals : (d f : ℕ) (r : Region) → env d ≡ Some r → is_final P d f ≡ true → Knows known (r.fields f)
  pub named : (d n : ℕ) (r : Region) → env d ≡ Some r → KnowsSlots known (fixed_at P Named r.pool n)

-- so what is fixed of the objects of other classes is known
pub fixed_knows : (P : Program) (env : Environment) (c : ℕ) (known : Names)
    → ((d n : ℕ) (r : Region) → env d ≡ Some r → KnowsSlots known (fixed_at P Named r.pool n)) →
    (own : Region) (m : Maker) (p : Pool) → same_maker (Class c) m ≡ false → pool_seen env c own m ≡ Some p →
    (part : Part) (n : ℕ) → KnowsSlots known (fixed_at P part p n)
fixed_knows P env c known named own m p other is part n =
    let found = pool_of_other env c own m p other is in
    fixed-known known P part p n
    (subst (λ (q : Pool). KnowsSlots known (fixed_at P Named q n)) found.3 (named found.0 n found.1 found.2))

module _ (P : Program) (lawful : IsLawful P) (env : Environment) (c : ℕ) (known : Names)
    (suffices : Suffices P env c known) where
  -- ---- one instruction

  abbrev pub KnowsConduct : Conduct → Type 0
  KnowsConduct (Leaves m) = KnowsMove known m.move × KnowsRegion known m.region
  KnowsConduct (Stops stop) = Unit {0}

  either : (b : Bool) (x y : Conduct) → KnowsConduct x → (b ≡ false → KnowsConduct y) → KnowsConduct (cond b x y)
  either true x y one other = one
  either false x y one other = other refl

  hand : {A : Type 0} (o : Option A) (go : A → Conduct) → ((a : A) → o ≡ Some a → KnowsConduct (go a))
      → KnowsConduct (at_hand o go)
  hand None go h = tt
  hand (Some a) go h = h a refl

  fixed : (o : Option (List Value)) (go : Option (List Value) → Conduct) → KnowsConduct (go o)
      → KnowsConduct (if_fixed o go)
  fixed None go h = tt
  fixed (Some vs) go h = h

  if_final : (b : Bool) (x : Conduct) → (b ≡ true → KnowsConduct x) → KnowsConduct (cond b x (Stops Barred))
  if_final true x h = h refl
  if_final false x h = tt

  if_open : (b : Bool) (x : Conduct) → (b ≡ true → KnowsConduct x)
      → KnowsConduct (cond b x (Stops (Refused ForeignObject)))
  if_open true x h = h refl
  if_open false x h = tt

  pub quiet_knows : (row : Row) (own : Region) (n : ℕ) → Suits P known row → KnowsRegion known own
      → KnowsConduct (quiet P env c own n row)
  quiet_knows (Ends (Next move)) own n fits k = (fits.0, k)
  quiet_knows (Ends (Raise x class)) own n fits k = tt
  quiet_knows (Ends (Halt kind)) own n fits k = tt
  quiet_knows (UseClass d next) own n fits k =
      let on = quiet_knows (next true) own n (fits true) k in
      either (d == c) _ _ on (λ other. hand (env d) _ (λ r is. on))
  quiet_knows (ReadStatic d f next) own n fits k =
      either (d == c) _ _ (quiet_knows (next (own.fields f)) own n (fits (own.fields f) (k.0 f)) k)
      (λ other. hand (env d) _ (λ r is. if_final (is_final P d f) _
      (λ final. quiet_knows (next (r.fields f)) own n (fits (r.fields f) (suffices.finals d f r is final)) k)))
  quiet_knows (WriteStatic d f v next) own n fits k =
      either (d == c) _ _
      (quiet_knows next (with_field own f v) n fits.2 (field_known known own f v k fits.0)) (λ other. tt)
  quiet_knows (AskClass x next) own n fits k =
      hand (pool_seen env c own x.maker) _ (λ p is. quiet_knows (next _) own n (fits.1 _) k)
  quiet_knows (LookInto x part next) own n fits k =
      either (same_maker (Class c) x.maker) _ _
      (quiet_knows (next (part_at part own.pool x.number)) own n
      (fits.1 _ (part_at-holds known part own.pool x.number k.1)) k)
      (λ other. if_open (is_open part) _ (λ o. hand (pool_seen env c own x.maker) _ (λ p is.
      fixed (fixed_at P part p x.number) _
      (quiet_knows (next (fixed_at P part p x.number)) own n
      (fits.1 _ (fixed_knows P env c known suffices.named own x.maker p other is part x.number)) k))))
  quiet_knows (Change x i v next) own n fits k =
      either (same_maker (Class c) x.maker) _ _
      (quiet_knows next _ n fits.2 (k.0, with_slot-holds known own.pool x.number i v k.1 fits.1)) (λ other. tt)
  quiet_knows (Make class slots next) own n fits k =
      quiet_knows (next _) _ (n + elements_in class slots) (fits.1 _ (suffices.own own.pool.count))
      (k.0, with_new-holds known own.pool class slots k.1 fits.0)
  quiet_knows (UseMonitor x enter next) own n fits k = tt
  quiet_knows (Print text next) own n fits k = tt

  pub step_knows : (f : Frame) (own : Region) (m : QuietMove) → quiet_step P env c f own ≡ Leaves m
      → KnowsFrame known f → KnowsRegion known own → KnowsMove known m.move × KnowsRegion known m.region
  step_knows f own m moves k kr =
      subst KnowsConduct moves (quiet_knows (P.row f) own 0 (frame_suits P lawful known f k) kr)

  -- ---- whole bodies

  onward_known : (move : Move) (f g : Frame) → KnowsMove known move → KnowsFrame known f → onward move f ≡ Some g
      → KnowsFrame known g
  onward_known move f g km k e =
      (moved_known known move f [] (g ∷ []) km (k, tt) (onward_moved move f g [] e)).0

  pub runs_know : {f : Frame} {own last : Region} {n : ℕ} {v : Option Value} → RunsBody P env c f own n v last →
      KnowsFrame known f → KnowsRegion known own → KnowsSome known v × KnowsRegion known last
  runs_know (ByReturn {f = f} {own = own} {m = m} moves is) k kr =
      let known_move = step_knows f own m moves k kr in
      (subst (KnowsMove known) is known_move.0, known_move.1)
  runs_know (ByStep {f = f} {g = g} {own = own} {m = m} moves is on) k kr =
      let known_move = step_knows f own m moves k kr in
      runs_know on (onward_known m.move f g known_move.0 k is) known_move.1
  runs_know (ByCall {f = f} {g = g} {callee = callee} {operands = operands} {own = own} {m = m} {result = result}
      moves is called back on) k kr =
      let known_move = step_knows f own m moves k kr in
      let inner = runs_know called (subst (KnowsMove known) is known_move.0).1 known_move.1 in
      runs_know on (back_known known f g operands callee m.move result k known_move.0 is inner.0 back) inner.1

  -- ---- initializers

  pub settled_known : (n : ℕ) (region : Region) → Settles P env c n region → KnowsRegion known region
  settled_known n region = by_body (P.initializer c) refl
    where
      by_body : (o : Option Frame) → P.initializer c ≡ o → SettlesBy P env c o n region → KnowsRegion known region
      by_body None is settled = subst (KnowsRegion known) settled.1 (constant_region_known P lawful known c)
      by_body (Some f) is settled =
          (runs_know settled.1 (lawful.initializer_names known c f is) (constant_region_known P lawful known c)).1
