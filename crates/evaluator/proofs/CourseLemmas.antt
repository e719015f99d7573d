-- What is done in a row where a class is alone is what its initializer does.
use Rattle.std.proofs.Common.{◌≡◌, ℕ, zero, suc, ◌+◌, ◌-◌, ◌≤◌, Bool, true, false, cond, List, [], ◌∷◌, Option, Some}
use Rattle.std.proofs.Common.{None, option_map}
use Rattle.std.proofs.Common.{inl, inr, refl, sym, ap, subst, subst₂, ◌∙◌, ◌==◌, eqb-true, eq-eqb, arith}
use Rattle.std.specs.Prelude.{if◌then◌else◌}
use Rattle.built_in.specs.declared.class_id.ClassId.{ClassId}
use Rattle.built_in.specs.declared.class_id.ClassId.TheVariants.{Given, BuiltIn, Array}
use Rattle.vm_state.specs.declared.classes.ClassArea.{ClassArea}
use Rattle.vm_state.specs.declared.classes.ClassState.TheVariants.{Initialized}
use Rattle.vm_state.specs.declared.classes.Usability.{Usability}
use Rattle.vm_state.specs.declared.classes.Usability.TheVariants.{Ready, Fresh, Busy, Broken}
use Rattle.vm_state.specs.declared.frame.Frame.{Frame}
use Rattle.vm_state.specs.declared.frame.Segment.{Segment}
use Rattle.vm_state.specs.declared.heap.Heap.{Heap}
use Rattle.vm_state.specs.declared.object.Object.{Object}
use Rattle.vm_state.specs.declared.value.Value.{Value}
use Rattle.vm_state.specs.declared.value.Maker.{Maker}
use Rattle.vm_state.specs.declared.value.Maker.TheVariants.{Class, Thread}
use Rattle.vm_state.specs.Output.{Print}
use Rattle.vm_state.specs.Segments.{frames_of}
use Rattle.vm_state.specs.SharedState.{Pool, Region, SharedState, class_at, pool_of, same_maker, set_pool, set_region}
use Rattle.vm_state.specs.SharedState.{set_state, slots_at, with_field, with_new, with_slot}
use Rattle.vm_state.specs.SharedTables.{SharedTables}
use Rattle.vm_state.specs.Shares.{initialized, shared_of}
use Rattle.vm_state.specs.Statics.{states_of, usable}
use Rattle.vm_state.proofs.ListLemmas.{tested}
use Rattle.semantics.specs.Rows.{Row, Move, Ends, Next, Raise, Halt, UseClass, ReadStatic, WriteStatic, AskClass}
use Rattle.semantics.specs.Rows.{LookInto, Change, Make, UseMonitor, Print as PrintsText, Result, Moved, Needs, Waits}
use Rattle.semantics.specs.Rows.{part_of, Outcome}
use Rattle.semantics.specs.Moves.{Stand, moved, stand}
use Rattle.semantics.specs.Steps.{LedTo, led}
use Rattle.semantics.specs.Programs.{Program}
use Rattle.semantics.specs.Quiet.{Environment, QuietMove, Conduct, Leaves, Stop, pool_seen, quiet, quiet_step}
use Rattle.semantics.specs.Alone.{RunsAlone, Step, StopsAlone, Later}
use Rattle.program.specs.Tables.{Tables}
use Rattle.machine.specs.Linked.{program_of}
use Rattle.machine.specs.Table.{row}
use Rattle.courses.specs.Courses.{Above, Course, above, over}
use Rattle.register_code.specs.Smooth.{run_smooth, when_held, when_ready}
use Rattle.evaluator.specs.steps.Courses.{Alone, GoesAhead}
use Rattle.evaluator.specs.steps.Steps.{GoesOn}
use Rattle.evaluator.proofs.StepsLemmas.{goes_further}

-- ---- states in which a class is alone

same_class : (c : ℕ) → (c == c) ≡ true
same_class c = eq-eqb c c refl

region_set : (sh : SharedState) (c : ℕ) (r : Region) → (set_region sh c r).regions c ≡ r
region_set sh c r = rw (same_class c) refl

pub alone_region : (c : ℕ) (sh : SharedState) (r : Region) → Alone c sh → Alone c (set_region sh c r)
alone_region c sh r alone = record { ready = alone.ready; held = held } where
  of_class : (d n : ℕ) (o : Object) (b : Bool) → (d == c) ≡ b
      → (if b then r else sh.regions d).pool.at n ≡ Some o → Class d ≡ Class c
  of_class d n o true same is = ap Class (eqb-true d c same)
  of_class d n o false same is = alone.held (Class d) n o is

  held : (maker : Maker) (n : ℕ) (o : Object) → (pool_of (set_region sh c r) maker).at n ≡ Some o → maker ≡ Class c
  held (Class d) n o is = of_class d n o (d == c) refl is
  held (Thread t) n o is = alone.held (Thread t) n o is

pub alone_pool : (c : ℕ) (sh : SharedState) (q : Pool) → Alone c sh → Alone c (set_pool sh (Class c) q)
alone_pool c sh q alone = record { ready = alone.ready; held = held } where
  of_class : (d n : ℕ) (o : Object) (b : Bool) → (c == d) ≡ b
      → (if b then record (sh.regions d) { pool = q } else sh.regions d).pool.at n ≡ Some o → Class d ≡ Class c
  of_class d n o true same is = ap Class (sym (eqb-true c d same))
  of_class d n o false same is = alone.held (Class d) n o is

  held : (maker : Maker) (n : ℕ) (o : Object) → (pool_of (set_pool sh (Class c) q) maker).at n ≡ Some o
      → maker ≡ Class c
  held (Class d) n o is = of_class d n o (c == d) refl is
  held (Thread t) n o is = alone.held (Thread t) n o is

pub alone_initialized : (c : ℕ) (sh : SharedState) (r : Region) → Alone c sh → Alone c (initialized sh c r)
alone_initialized c sh r alone = record { ready = ready; held = (alone_region c sh r alone).held } where
  of_class : (d : ℕ) (b : Bool) → (d == c) ≡ b → usable 0 (if b then Initialized else sh.states d) ≡ Ready → d ≡ c
  of_class d true same is = eqb-true d c same
  of_class d false same is = alone.ready d is

  ready : (d : ℕ) → usable 0 ((initialized sh c r).states d) ≡ Ready → d ≡ c
  ready d is = of_class d (d == c) refl is

-- nothing is kept of any class
pub alone_at_first : (c : ℕ) (p : List Print)
    → Alone c (shared_of (record { classes = []; heap = record { classes = []; threads = [] } }) p)
unfolding shared_of states_of
alone_at_first c p = record { ready = λ d is. cc; held = held } where
  held : (maker : Maker) (n : ℕ) (o : Object)
      → (pool_of (shared_of (record { classes = []; heap = record { classes = []; threads = [] } }) p) maker).at n
      ≡ Some o → maker ≡ Class c
  held (Class d) n o is = cc
  held (Thread t) n o is = cc

pub alone_new : (c : ℕ) (s : SharedTables) (classes : List ClassArea) (heap : Heap) (p : List Print)
    → s ≡ record { classes = classes; heap = heap } → classes ≡ [] → heap ≡ record { classes = []; threads = [] }
    → Alone c (shared_of s p)
alone_new c s classes heap p is none empty = rw (is, none, empty) (alone_at_first c p)

-- ---- an instruction

-- a row that goes smoothly is quiet, and makes no element
abbrev Quietly : Program → Environment → ℕ → Region → Row → Move → SharedState → Type 0
Quietly P env c own r move new =
    (quiet P env c own 0 r ≡ Leaves (record { move = move; region = new.regions c; elements = 0 })) × Alone c new

module _ (P : Program) (env : Environment) (c : ℕ) where
  its_own : (maker : Maker) → maker ≡ Class c → same_maker (Class c) maker ≡ true
  its_own maker is = subst (λ (m : Maker). same_maker (Class c) m ≡ true) (sym is) (same_class c)

  its_pool : (own : Region) (sh : SharedState) (maker : Maker) → sh.regions c ≡ own → maker ≡ Class c
      → own.pool ≡ pool_of sh maker
  its_pool own sh maker there is =
      subst (λ (m : Maker). own.pool ≡ pool_of sh m) (sym is) (ap (λ (r : Region). r.pool) (sym there))

  it_sees : (own : Region) (sh : SharedState) (maker : Maker) → sh.regions c ≡ own → maker ≡ Class c
      → pool_seen env c own maker ≡ Some (pool_of sh maker)
  it_sees own sh maker there is =
      subst (λ (m : Maker). pool_seen env c own m ≡ Some (pool_of sh m)) (sym is)
      (rw (same_class c) (ap (λ (r : Region). Some r.pool) (sym there)))

  changed : (own : Region) (sh : SharedState) (q : Pool) → sh.regions c ≡ own
      → (set_pool sh (Class c) q).regions c ≡ record own { pool = q }
  changed own sh q there = rw (same_class c) (ap (λ (r : Region). record r { pool = q }) there)

  abbrev Smoothly : SharedState → Row → Move → SharedState → Type 0
  Smoothly sh r move new = run_smooth 0 (Class c) sh r ≡ Moved (Next move) new

  -- what follows is quiet where it goes smoothly
  abbrev Goes : Region → SharedState → Row → Move → SharedState → Type 0
  Goes own sh r move new = Smoothly sh r move new → Quietly P env c own r move new

  smooth_quiet : (r : Row) (own : Region) (sh : SharedState) (move : Move) (new : SharedState) → Alone c sh
      → sh.regions c ≡ own → Goes own sh r move new
  smooth_quiet (Ends (Next m)) own sh move new alone there h =
      let same : sh ≡ new = cc in
      let moves : m ≡ move = cc in
      subst₂ (λ (k : Move) (s : SharedState). Quietly P env c own (Ends (Next m)) k s) moves same
      (ap (λ (r : Region). Leaves (record { move = m; region = r; elements = 0 })) (sym there), alone)
  smooth_quiet (Ends (Raise x class)) own sh move new alone there h = cc
  smooth_quiet (Ends (Halt kind)) own sh move new alone there h = cc
  smooth_quiet (UseClass d next) own sh move new alone there h =
      used (usable 0 (sh.states d)) refl h (smooth_quiet (next true) own sh move new alone there) where
        used : (u : Usability) → usable 0 (sh.states d) ≡ u
            → when_ready u (run_smooth 0 (Class c) sh (next true)) ≡ Moved (Next move) new
            → Goes own sh (next true) move new → Quietly P env c own (UseClass d next) move new
        used Ready is h on =
            let mine : (d == c) ≡ true = eq-eqb d c (alone.ready d is) in rw mine (on h)
        used Fresh is h on = cc
        used Busy is h on = cc
        used Broken is h on = cc
  smooth_quiet (ReadStatic d f next) own sh move new alone there h =
      used (usable 0 (sh.states d)) refl h (smooth_quiet (next (own.fields f)) own sh move new alone there) where
        used : (u : Usability) → usable 0 (sh.states d) ≡ u
            → when_ready u (run_smooth 0 (Class c) sh (next ((sh.regions d).fields f))) ≡ Moved (Next move) new
            → Goes own sh (next (own.fields f)) move new → Quietly P env c own (ReadStatic d f next) move new
        used Ready is h on =
            let same : d ≡ c = alone.ready d is in
            let mine : (d == c) ≡ true = eq-eqb d c same in
            let region : sh.regions d ≡ own = ap sh.regions same ∙ there in
            rw mine (on (subst (λ (r : Region). Smoothly sh (next (r.fields f)) move new) region h))
        used Fresh is h on = cc
        used Busy is h on = cc
        used Broken is h on = cc
  smooth_quiet (WriteStatic d f v next) own sh move new alone there h =
      used (usable 0 (sh.states d)) refl h
      (smooth_quiet next (with_field own f v) (set_region sh c (with_field own f v)) move new
      (alone_region c sh (with_field own f v) alone) (region_set sh c (with_field own f v))) where
        used : (u : Usability) → usable 0 (sh.states d) ≡ u
            → when_ready u (run_smooth 0 (Class c) (set_region sh d (with_field (sh.regions d) f v)) next)
            ≡ Moved (Next move) new
            → Goes (with_field own f v) (set_region sh c (with_field own f v)) next move new
            → Quietly P env c own (WriteStatic d f v next) move new
        used Ready is h on =
            let same : d ≡ c = alone.ready d is in
            let mine : (d == c) ≡ true = eq-eqb d c same in
            let region : sh.regions d ≡ own = ap sh.regions same ∙ there in
            rw mine (on (subst₂ (λ (k : ℕ) (r : Region). Smoothly (set_region sh k (with_field r f v)) next move new)
            same region h))
        used Fresh is h on = cc
        used Busy is h on = cc
        used Broken is h on = cc
  smooth_quiet (AskClass x next) own sh move new alone there h =
      asked ((pool_of sh x.maker).at x.number) refl h
      (λ class. smooth_quiet (next (Some class)) own sh move new alone there) where
        asked : (o : Option Object) → (pool_of sh x.maker).at x.number ≡ o
            → Smoothly sh (AskClass x next) move new
            → ((class : ClassId) → Goes own sh (next (Some class)) move new)
            → Quietly P env c own (AskClass x next) move new
        asked None is h on = let none : Waits ≡ Moved (Next move) new = rw is at h in cc
        asked (Some o) is h on =
            let mine = alone.held x.maker x.number o is in
            rw (it_sees own sh x.maker there mine, is) (on o.class (rw is at h))
  smooth_quiet (LookInto x part next) own sh move new alone there h =
      looked ((pool_of sh x.maker).at x.number) refl h
      (λ vs. smooth_quiet (next (part_of part vs)) own sh move new alone there) where
        looked : (o : Option Object) → (pool_of sh x.maker).at x.number ≡ o
            → Smoothly sh (LookInto x part next) move new
            → ((vs : List Value) → Goes own sh (next (part_of part vs)) move new)
            → Quietly P env c own (LookInto x part next) move new
        looked None is h on = let none : Waits ≡ Moved (Next move) new = rw is at h in cc
        looked (Some o) is h on =
            let mine = alone.held x.maker x.number o is in
            let seen : own.pool.at x.number ≡ Some o =
            ap (λ (p : Pool). p.at x.number) (its_pool own sh x.maker there mine) ∙ is in
            rw (its_own x.maker mine, seen) (on o.slots (rw is at h))
  smooth_quiet (Change x i v next) own sh move new alone there h =
      changes ((pool_of sh x.maker).at x.number) refl h
      (smooth_quiet next (record own { pool = with_slot own.pool x.number i v })
      (set_pool sh (Class c) (with_slot own.pool x.number i v)) move new
      (alone_pool c sh (with_slot own.pool x.number i v) alone)
      (changed own sh (with_slot own.pool x.number i v) there)) where
        changes : (o : Option Object) → (pool_of sh x.maker).at x.number ≡ o
            → Smoothly sh (Change x i v next) move new
            → Goes (record own { pool = with_slot own.pool x.number i v })
            (set_pool sh (Class c) (with_slot own.pool x.number i v)) next move new
            → Quietly P env c own (Change x i v next) move new
        changes None is h on = let none : Waits ≡ Moved (Next move) new = rw is at h in cc
        changes (Some o) is h on =
            let mine = alone.held x.maker x.number o is in
            let leads : when_held (Some o.slots) (λ (vs : List Value). run_smooth 0 (Class c)
            (set_pool sh x.maker (with_slot (pool_of sh x.maker) x.number i v)) next) ≡ Moved (Next move) new =
            subst (λ (w : Option Object). when_held (option_map (λ (k : Object). k.slots) w)
            (λ (vs : List Value). run_smooth 0 (Class c)
            (set_pool sh x.maker (with_slot (pool_of sh x.maker) x.number i v)) next) ≡ Moved (Next move) new) is h in
            let pool = sym (its_pool own sh x.maker there mine) in
            rw (its_own x.maker mine)
            (on (subst₂ (λ (m : Maker) (p : Pool). Smoothly (set_pool sh m (with_slot p x.number i v)) next move new)
            mine pool leads))
  smooth_quiet (Make (Given d) slots next) own sh move new alone there h =
      used (usable 0 (sh.states d)) h
      (smooth_quiet (next (record { maker = Class c; number = own.pool.count }))
      (record own { pool = with_new own.pool (Given d) slots })
      (set_pool sh (Class c) (with_new own.pool (Given d) slots)) move new
      (alone_pool c sh (with_new own.pool (Given d) slots) alone)
      (changed own sh (with_new own.pool (Given d) slots) there)) where
        used : (u : Usability)
            → when_ready u (run_smooth 0 (Class c) (set_pool sh (Class c) (with_new (sh.regions c).pool
            (Given d) slots))
            (next (record { maker = Class c; number = (sh.regions c).pool.count })))
            ≡ Moved (Next move) new
            → Goes (record own { pool = with_new own.pool (Given d) slots })
            (set_pool sh (Class c) (with_new own.pool (Given d) slots))
            (next (record { maker = Class c; number = own.pool.count })) move new
            → Quietly P env c own (Make (Given d) slots next) move new
        used Ready h on =
            on (subst (λ (r : Region). Smoothly (set_pool sh (Class c) (with_new r.pool (Given d) slots))
            (next (record { maker = Class c; number = r.pool.count })) move new) there h)
        used Fresh h on = cc
        used Busy h on = cc
        used Broken h on = cc
  smooth_quiet (Make (BuiltIn b) slots next) own sh move new alone there h = cc
  smooth_quiet (Make (Array a) slots next) own sh move new alone there h = cc
  smooth_quiet (UseMonitor x enter next) own sh move new alone there h = cc
  smooth_quiet (PrintsText text next) own sh move new alone there h = cc

-- ---- instructions in a row

module _ (T : Tables) (env : Environment) (c : ℕ) where
  abbrev P : Program
  P = program_of T

  -- one that leaves these frames
  record Once (f : Frame) (fs gs : List Frame) (own : Region) (new : SharedState) : Type 0 where
    move : Move
    quietly : Quietly P env c own (row T f) move new
    leads : moved move f fs ≡ Some gs

  once : (f : Frame) (fs gs : List Frame) (own : Region) (sh new : SharedState) → Alone c sh → sh.regions c ≡ own
      → led (f ∷ fs) (run_smooth 0 (Class c) sh (row T f)) ≡ LedTo (Stand gs) new → Once f fs gs own new
  once f fs gs own sh new alone there h = ran (run_smooth 0 (Class c) sh (row T f)) refl h where
    stood : (move : Move) (frames : Option (List Frame)) (after : SharedState) → moved move f fs ≡ frames
        → run_smooth 0 (Class c) sh (row T f) ≡ Moved (Next move) after
        → LedTo (stand frames) after ≡ LedTo (Stand gs) new → Once f fs gs own new
    stood move None after is smooth h = cc
    stood move (Some hs) after is smooth h =
        let frames : hs ≡ gs = cc in
        let same : after ≡ new = cc in
        record {
          move = move;
          quietly = smooth_quiet P env c (row T f) own sh move new alone there
              (smooth ∙ ap (Moved (Next move)) same);
          leads = is ∙ ap Some frames;
        }

    ran : (result : Result) → run_smooth 0 (Class c) sh (row T f) ≡ result
        → led (f ∷ fs) result ≡ LedTo (Stand gs) new → Once f fs gs own new
    ran (Moved (Next move) after) is h = stood move (moved move f fs) after refl is h
    ran (Moved (Raise x class) after) is h = cc
    ran (Moved (Halt kind) after) is h = cc
    ran (Needs d) is h = cc
    ran Waits is h = cc

  once_on : (f : Frame) (fs gs : List Frame) (own : Region) (new : SharedState) (most : ℕ)
      → Once f fs gs own new → GoesOn P env c (f ∷ fs) own (suc most) gs (new.regions c) most
  once_on f fs gs own new most one = record {
    cost = 1;
    paid = omega arith;
    runs = λ n last run. Step one.quietly.0 one.leads run;
    stops = λ stop stops.
        let all : most ≡ most - 0 = omega arith in
        let fits : 0 ≤ most = omega arith in
        Later one.quietly.0 fits one.leads (subst (λ (k : ℕ). StopsAlone P env c gs (new.regions c) k stop) all stops);
  }

  stays_there : (fs : List Frame) (own new : Region) (left : ℕ) → own ≡ new
      → GoesOn P env c fs own left fs new (left - 0)
  stays_there fs own new left same = record {
    cost = 0;
    paid = omega arith;
    runs = λ n last run.
        let count : n ≡ 0 + n = omega arith in
        subst₂ (λ (r : Region) (k : ℕ). RunsAlone P env c fs r k last) (sym same) count run;
    stops = λ stop stops.
        let all : left - 0 ≡ left = omega arith in
        subst₂ (λ (r : Region) (k : ℕ). StopsAlone P env c fs r k stop) (sym same) all stops;
  }

  abbrev Leaving : List Frame → Region → ℕ → ℕ → Above → Type 0
  Leaving fs own left n b = GoesOn P env c fs own left b.frames (b.shared.regions c) (left - n)

  course_goes : (n left : ℕ) (fs : List Frame) (sh : SharedState) (own : Region) (b : Above) → Alone c sh
      → sh.regions c ≡ own → Course T 0 (Class c) n (over fs sh) b → n ≤ left → Leaving fs own left n b
  course_goes zero left fs sh own b alone there same fits =
      subst (Leaving fs own left 0) (sym same) (stays_there fs own (sh.regions c) left (sym there))
  course_goes (suc n) left [] sh own b alone there (m, (leads, some), more) fits = cc
  course_goes (suc n) zero (f ∷ fs) sh own b alone there (m, (leads, some), more) fits = absurd (omega (arith, fits))
  course_goes (suc n) (suc most) (f ∷ fs) sh own b alone there (m, (leads, some), more) fits =
      let one = once f fs m.frames own sh m.shared alone there leads in
      let few : n ≤ most = omega (arith, fits) in
      let left : most - n ≡ suc most - suc n = omega arith in
      subst (λ (k : ℕ). GoesOn P env c (f ∷ fs) own (suc most) b.frames (b.shared.regions c) k) left
      (goes_further P env c (once_on f fs m.frames own m.shared most one)
      (course_goes n most m.frames m.shared (m.shared.regions c) b one.quietly.1 refl more few))

  course_alone : (n : ℕ) (fs : List Frame) (sh : SharedState) (b : Above) → Alone c sh
      → Course T 0 (Class c) n (over fs sh) b → Alone c b.shared
  course_alone zero fs sh b alone same = subst (λ (x : Above). Alone c x.shared) (sym same) alone
  course_alone (suc n) [] sh b alone (m, (leads, some), more) = cc
  course_alone (suc n) (f ∷ fs) sh b alone (m, (leads, some), more) =
      let one = once f fs m.frames (sh.regions c) sh m.shared alone refl leads in
      course_alone n m.frames m.shared b one.quietly.1 more

-- ---- what a runner answers

pub stays_behind : (T : Tables) (c most : ℕ) (s : Segment) (own : Region) → GoesAhead
    (program_of T) c most 0 s own s own
stays_behind T c most s own = record {
  goes = λ env left few. stays_there T env c (frames_of s) own own left refl;
  most = omega arith;
}

pub alone_with : (c : ℕ) (old new : SharedState) (r : Region) → new ≡ initialized old c r → Alone c old → Alone c new
alone_with c old new r is alone = subst (Alone c) (sym is) (alone_initialized c old r alone)

pub alone_without : (c : ℕ) (old new : SharedState) (r : Region) → new ≡ set_region old c r → Alone c old → Alone c new
alone_without c old new r is alone = subst (Alone c) (sym is) (alone_region c old r alone)

pub region_with : (c : ℕ) (old new : SharedState) (r : Region) → new ≡ initialized old c r → new.regions c ≡ r
region_with c old new r is = ap (λ (sh : SharedState). sh.regions c) is ∙ region_set old c r

pub went_ahead : (T : Tables) (c most count : ℕ) (old new : Segment) (own last : Region) (first second : SharedState)
    → Alone c first → first.regions c ≡ own
    → Course T 0 (Class c) count (over (frames_of old) first) (over (frames_of new) second) → count ≤ most
    → last ≡ second.regions c → GoesAhead (program_of T) c most count old own new last
went_ahead T c most count old new own last first second alone there course fits is = record {
  goes = λ env left few.
      subst (λ (r : Region). GoesOn (program_of T) env c (frames_of old) own left (frames_of new) r (left - count))
      (sym is)
      (course_goes T env c count left (frames_of old) first own (over (frames_of new) second) alone there course few);
  most = fits;
}

pub course_stays : (T : Tables) (c n : ℕ) (fs : List Frame) (sh : SharedState) (b : Above) → Alone c sh
    → Course T 0 (Class c) n (over fs sh) b → Alone c b.shared
course_stays T c = course_alone T (λ d. None) c

-- nothing is done yet
pub begins_there : (T : Tables) (env : Environment) (c left : ℕ) (fs : List Frame) (own : Region)
    → GoesOn (program_of T) env c fs own left fs own left
begins_there T env c left fs own =
    let all : left - 0 ≡ left = omega arith in
    subst (λ (k : ℕ). GoesOn (program_of T) env c fs own left fs own k) all (stays_there T env c fs own own left refl)
