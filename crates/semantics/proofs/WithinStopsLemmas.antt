-- A class whose code bars nothing, with its uses at hand, is not barred when its initializer runs.
use Rattle.std.proofs.Common.{◌≡◌, inr, ℕ, Bool, true, false, cond, ◌||◌, List, Option, Some, None, ◌==◌}
use Rattle.std.proofs.Common.{refl, sym, subst, ◌∙◌, ◌+◌, eq-eqb, option_map}
use Rattle.std.specs.Option.{IsSome, is_some}
use Rattle.vm_state.specs.declared.value.Value.{Value}
use Rattle.vm_state.specs.declared.value.Maker.{Maker}
use Rattle.vm_state.specs.declared.value.Maker.TheVariants.{Class, Thread}
use Rattle.vm_state.specs.declared.frame.Frame.{Frame}
use Rattle.vm_state.specs.SharedState.{Region, same_maker, with_field}
use Rattle.semantics.specs.Rows.{Move, Next, Raise, Halt, Row, Ends}
use Rattle.semantics.specs.Rows.{UseClass, ReadStatic, WriteStatic, AskClass, LookInto, Change}
use Rattle.semantics.specs.Rows.{Make, UseMonitor, Print, part_at}
use Rattle.semantics.specs.Programs.{Program}
use Rattle.semantics.specs.Quiet.{Environment, is_final, pool_seen, Refusal, Stop, Refused, Barred, Raised}
use Rattle.semantics.specs.Quiet.{ForeignObject, OverBudget, Faulted, Conduct, Leaves, Stops, is_open, at_hand}
use Rattle.semantics.specs.Quiet.{if_fixed, fixed_at, elements_in, quiet, quiet_step}
use Rattle.semantics.specs.Settling.{RunsBody, ByReturn, ByStep, ByCall, entered, StopsBody, Before, At}
use Rattle.semantics.specs.Settling.{Making, Inside, NoRoom, AfterCall, StoppedAt}
use Rattle.semantics.specs.Lawful.{Names, KnowsFrame, KnowsMove, KnowsSome, IsLawful}
use Rattle.semantics.specs.Bounds.{Scope, MovesWithin, IsInScope, Bounds, IsBounded, MayRun, Initializes, Called}
use Rattle.semantics.specs.Bounds.{IsUse, IsClean}
use Rattle.semantics.specs.Soundness.{is_made_at_hand, names_at_hand, IsClosed, HasUses, StopsWithin}
use Rattle.semantics.proofs.FrameMovesLemmas.{onward_entered}
use Rattle.semantics.proofs.PoolsLemmas.{with_slot-holds, with_new-holds, part_at-holds}
use Rattle.semantics.proofs.WithinRowsLemmas.{received_has, entered_has}
use Rattle.semantics.proofs.WithinNamesLemmas.{KnowsRegion, constant_region_known, entered_known}
use Rattle.semantics.proofs.WithinNamesLemmas.{field_known, back_known, Suits, frame_suits, fixed_knows}

-- what was stopped was refused
abbrev pub IsRefused : Stop → Type 0
IsRefused stop = (why : Refusal) × (stop ≡ Refused why)

-- What is said of an instruction bars nothing, and what it needs is used.
record IsFree (used : ℕ → Type 0) (c : ℕ) (scope : Scope) : Type 0 where
  needs : (d : ℕ) → scope.needs ≡ Some d → (d == c) ≡ false → used d
  writes : (d : ℕ) → scope.writes ≡ Some d → d ≡ c
  reads : (d : ℕ) → scope.reads ≡ Some d → d ≡ c
  prints : scope.prints ≡ false
  locks : scope.locks ≡ false

module _ (P : Program) (lawful : IsLawful P) (B : Bounds) (env : Environment) (c : ℕ) (has : HasUses P B env c)
    (closed : IsClosed P (IsUse P B c) env c) where
  abbrev known : Names
  known = names_at_hand env c

  own_known : (n : ℕ) → known (record { maker = Class c; number = n }) ≡ true
  own_known n = rw (eq-eqb c c refl) refl

  -- It moves as is said of it, and to what is known, or is refused.
  abbrev Passes : Scope → Conduct → Type 0
  Passes scope (Leaves m) = MovesWithin scope m.move × KnowsMove known m.move × KnowsRegion known m.region
  Passes scope (Stops stop) = IsRefused stop

  -- ---- one instruction

  module _ (scope : Scope) (free : IsFree (IsUse P B c) c scope) where
    either : (b : Bool) (x y : Conduct) → Passes scope x → (b ≡ false → Passes scope y) → Passes scope (cond b x y)
    either true x y one other = one
    either false x y one other = other refl

    hand : {A : Type 0} (o : Option A) (go : A → Conduct) → IsSome o → ((a : A) → o ≡ Some a → Passes scope (go a))
        → Passes scope (at_hand o go)
    hand None go has h = cc
    hand (Some a) go has h = h a refl

    if_final : (b : Bool) (x : Conduct) → (b ≡ true → Passes scope x) → (b ≡ false → ⊥)
        → Passes scope (cond b x (Stops Barred))
    if_final true x h other = h refl
    if_final false x h other = absurd (other refl)

    if_open : (b : Bool) (x : Conduct) → (b ≡ true → Passes scope x)
        → Passes scope (cond b x (Stops (Refused ForeignObject)))
    if_open true x h = h refl
    if_open false x h = (ForeignObject, refl)

    fixed : (o : Option (List Value)) (go : Option (List Value) → Conduct) → Passes scope (go o)
        → Passes scope (if_fixed o go)
    fixed None go h = (ForeignObject, refl)
    fixed (Some vs) go h = h

    apart : (d : ℕ) → (d == c) ≡ false → d ≡ c → ⊥
    apart d other same = (let clash : false ≡ true = sym other ∙ eq-eqb d c same in cc)

    -- the objects of a maker at hand are seen
    seen : (own : Region) (m : Maker) → is_made_at_hand env c m ≡ true → IsSome (pool_seen env c own m)
    seen own (Thread t) h = cc
    seen own (Class d) h = by_test (d == c) (env d) h
      where
        by_test : (b : Bool) (o : Option Region) → (b || is_some o) ≡ true →
            IsSome (cond b (Some own.pool) (option_map (λ (r : Region). r.pool) o))
        by_test true o is = refl
        by_test false None is = cc
        by_test false (Some r) is = refl

    quiet_passes : (row : Row) (own : Region) (n : ℕ) → IsInScope P scope row → Suits P known row →
        KnowsRegion known own → Passes scope (quiet P env c own n row)
    quiet_passes (Ends (Next move)) own n within fits k = (within, fits.0, k)
    quiet_passes (Ends (Raise x class)) own n within fits k = (Raised, refl)
    quiet_passes (Ends (Halt kind)) own n within fits k = (Faulted, refl)
    quiet_passes (UseClass d next) own n within fits k =
        let on = quiet_passes (next true) own n (within.1 true) (fits true) k in
        either (d == c) _ _ on (λ other. hand (env d) _ (has d (free.needs d within.0 other)) (λ r is. on))
    quiet_passes (ReadStatic d f next) own n within fits k =
        either (d == c) _ _
        (quiet_passes (next (own.fields f)) own n (within.2 (own.fields f)) (fits (own.fields f) (k.0 f)) k)
        (λ other. (let used = free.needs d within.0 other in
        hand (env d) _ (has d used) (λ r is. if_final (is_final P d f) _
        (λ final. quiet_passes (next (r.fields f)) own n (within.2 (r.fields f))
        (fits (r.fields f) (closed.finals d f r used is final)) k)
        (λ plain. apart d other (free.reads d (within.1 plain))))))
    quiet_passes (WriteStatic d f v next) own n within fits k =
        either (d == c) _ _
        (quiet_passes next (with_field own f v) n within.2 fits.2 (field_known known own f v k fits.0))
        (λ other. absurd (apart d other (free.writes d within.1)))
    quiet_passes (AskClass x next) own n within fits k =
        hand (pool_seen env c own x.maker) _ (seen own x.maker fits.0)
        (λ p is. quiet_passes (next _) own n (within _) (fits.1 _) k)
    quiet_passes (LookInto x part next) own n within fits k =
        either (same_maker (Class c) x.maker) _ _
        (quiet_passes (next (part_at part own.pool x.number)) own n (within _)
        (fits.1 _ (part_at-holds known part own.pool x.number k.1)) k)
        (λ other. if_open (is_open part) _ (λ o.
        hand (pool_seen env c own x.maker) _ (seen own x.maker fits.0) (λ p is.
        fixed (fixed_at P part p x.number) _
        (quiet_passes (next (fixed_at P part p x.number)) own n (within _)
        (fits.1 _ (fixed_knows P env c known closed.named own x.maker p other is part x.number)) k))))
    quiet_passes (Change x i v next) own n within fits k =
        either (same_maker (Class c) x.maker) _ _
        (quiet_passes next _ n within fits.2 (k.0, with_slot-holds known own.pool x.number i v k.1 fits.1))
        (λ other. (ForeignObject, refl))
    quiet_passes (Make class slots next) own n within fits k =
        quiet_passes (next _) _ (n + elements_in class slots) (within _) (fits.1 _ (own_known own.pool.count))
        (k.0, with_new-holds known own.pool class slots k.1 fits.0)
    quiet_passes (UseMonitor x enter next) own n within fits k =
        (let clash : false ≡ true = sym free.locks ∙ within.0 in cc)
    quiet_passes (Print text next) own n within fits k =
        (let clash : false ≡ true = sym free.prints ∙ within.0 in cc)

  -- ---- whole bodies

  module _ (bounded : IsBounded P B) (clean : IsClean P B c) where
    free_at : (f : Frame) → MayRun P B c f.activity → IsFree (IsUse P B c) c (B f.activity f.place)
    free_at f run = record {
      needs = λ d is other. (
        λ same. (let clash : false ≡ true = sym other ∙ eq-eqb d c same in cc),
        inr (f.activity, f.place, run, is),
      );
      writes = λ d is. clean.writes f.activity f.place d run is;
      reads = λ d is. clean.reads f.activity f.place d run is;
      prints = clean.prints f.activity f.place run;
      locks = clean.locks f.activity f.place run;
    }

    step_passes : (f : Frame) (own : Region) → MayRun P B c f.activity → KnowsFrame known f → KnowsRegion known own →
        (o : Conduct) → quiet_step P env c f own ≡ o → Passes (B f.activity f.place) o
    step_passes f own run k kr o is =
        subst (Passes (B f.activity f.place)) is
        (quiet_passes (B f.activity f.place) (free_at f run) (P.row f) own 0 (bounded.row f)
        (frame_suits P lawful known f k) kr)

    -- the frame on top after a move may run
    enters_run : (f g : Frame) (move : Move) → MayRun P B c f.activity → MovesWithin (B f.activity f.place) move →
        entered move f ≡ Some g → MayRun P B c g.activity
    enters_run f g move run within deep =
        entered_has (MayRun P B c) (B f.activity f.place) (λ a may. Called f.place run may) move f g within run deep

    -- of a whole body: what it returns and leaves is known
    body_passes : {f : Frame} {own last : Region} {n : ℕ} {v : Option Value} → RunsBody P env c f own n v last →
        MayRun P B c f.activity → KnowsFrame known f → KnowsRegion known own →
        KnowsSome known v × KnowsRegion known last
    body_passes (ByReturn {f = f} {own = own} {m = m} moves is) run k kr =
        let passes = step_passes f own run k kr (Leaves m) moves in
        (subst (KnowsMove known) is passes.1, passes.2)
    body_passes (ByStep {f = f} {g = g} {own = own} {m = m} moves is on) run k kr =
        let passes = step_passes f own run k kr (Leaves m) moves in
        let deep = onward_entered m.move f g is in
        body_passes on (enters_run f g m.move run passes.0 deep) (entered_known known m.move f g passes.1 k deep)
        passes.2
    body_passes (ByCall {f = f} {g = g} {callee = callee} {operands = operands} {own = own} {m = m} {result = result}
        moves is body room on) run k kr =
        let passes = step_passes f own run k kr (Leaves m) moves in
        let inner = body_passes body (Called f.place run (subst (MovesWithin (B f.activity f.place)) is passes.0))
        (subst (KnowsMove known) is passes.1).1 passes.2 in
        body_passes on (received_has (MayRun P B c) result (record f { operands = operands }) g run room)
        (back_known known f g operands callee m.move result k passes.1 is inner.0 room) inner.1

    stops_refused : {f : Frame} {own : Region} {budget : ℕ} {stop : Stop} → StopsBody P env c f own budget stop →
        MayRun P B c f.activity → KnowsFrame known f → KnowsRegion known own → IsRefused stop
    stops_refused Before run k kr = (OverBudget, refl)
    stops_refused (At {f = f} {own = own} {stop = stop} stops) run k kr =
        step_passes f own run k kr (Stops stop) stops
    stops_refused (Making moves over) run k kr = (OverBudget, refl)
    stops_refused (Inside {f = f} {g = g} {own = own} {m = m} moves deep fits stops) run k kr =
        let passes = step_passes f own run k kr (Leaves m) moves in
        stops_refused stops (enters_run f g m.move run passes.0 deep)
        (entered_known known m.move f g passes.1 k deep) passes.2
    stops_refused (NoRoom moves is body fits full) run k kr = (Faulted, refl)
    stops_refused (AfterCall {f = f} {g = g} {callee = callee} {operands = operands} {own = own} {m = m}
        {result = result} moves is body fits room stops) run k kr =
        let passes = step_passes f own run k kr (Leaves m) moves in
        let inner = body_passes body (Called f.place run (subst (MovesWithin (B f.activity f.place)) is passes.0))
        (subst (KnowsMove known) is passes.1).1 passes.2 in
        stops_refused stops (received_has (MayRun P B c) result (record f { operands = operands }) g run room)
        (back_known known f g operands callee m.move result k passes.1 is inner.0 room) inner.1

    initializer_refused : (budget : ℕ) (stop : Stop) (o : Option Frame) → P.initializer c ≡ o →
        StoppedAt P env c o budget stop → IsRefused stop
    initializer_refused budget stop None is stopped = absurd stopped
    initializer_refused budget stop (Some f) is stopped =
        stops_refused stopped (Initializes is) (lawful.initializer_names known c f is)
        (constant_region_known P lawful known c)

pub stops_within_lem : StopsWithin
stops_within_lem P B lawful bounded env c clean has closed budget stop stopped =
    initializer_refused P lawful B env c has closed bounded clean budget stop (P.initializer c) refl stopped
