-- A turn of a thread with an accepted class's initialization on top: the lazy world alone steps, or it waits for
-- another thread's.
use Rattle.std.proofs.Common.{◌≡◌, ◌≢◌, ℕ, ◌+◌, ◌<◌, ◌≤◌, Bool, true, false, ◌⊎◌, inl, inr, List, [], ◌∷◌, length}
use Rattle.std.proofs.Common.{Option, Some, None}
use Rattle.std.proofs.Common.{◌==◌, refl, sym, ap, ◌∙◌, subst, eqb-true, eq-eqb, arith, nat_lt, lt-ltb, ltb-true}
use Rattle.std.proofs.lemmas.Bool.{and_parts}
use Rattle.std.specs.List.{AllByRecursion}
use Rattle.vm_state.specs.declared.value.Maker.TheVariants.{Class}
use Rattle.vm_state.specs.declared.classes.ClassState.TheVariants.{InProgress, Initialized}
use Rattle.vm_state.specs.declared.classes.Usability.{Usability}
use Rattle.vm_state.specs.declared.frame.Frame.{Frame}
use Rattle.vm_state.specs.declared.initialization.Level.{Level}
use Rattle.vm_state.specs.Statics.{usable}
use Rattle.vm_state.specs.SharedState.{Region, SharedState, set_state}
use Rattle.semantics.specs.Programs.{Program}
use Rattle.semantics.specs.Rows.{Outcome, Result, Moved, Needs, Waits, run_row}
use Rattle.semantics.specs.Moves.{moved, stand}
use Rattle.semantics.specs.Steps.{Thread, Going, standing, going_on, left_by, instructed, finishes, initializes, passes}
use Rattle.semantics.specs.Steps.{step_parents, step_initialization}
use Rattle.semantics.specs.Steps.{step_thread}
use Rattle.semantics.specs.Worlds.{World, put_thread, step}
use Rattle.semantics.specs.Quiet.{Environment, QuietMove, Leaves, quiet_step}
use Rattle.semantics.specs.Alone.{RunsAlone, Over, Step, body}
use Rattle.semantics.specs.helpers.Lawful.{KnowsFrames}
use Rattle.vm_state.proofs.ListLemmas.{tested}
use Rattle.semantics.proofs.VisibilityLemmas.{States, known, hidden_by}
use Rattle.semantics.proofs.SettingLemmas.{Setting, is_below, below}
use Rattle.semantics.proofs.FrameMovesLemmas.{moved_known}
use Rattle.semantics.proofs.QuietRowsLemmas as QuietRows
use Rattle.semantics.proofs.StacksLemmas.{On, OnThread, Higher}
use Rattle.semantics.proofs.FuelLemmas.{shared_out, total_less}
use Rattle.semantics.proofs.ThreadsLemmas.{thread_at, put, going_within, erased-stays}
use Rattle.semantics.proofs.InvariantLemmas as Invariant
use Rattle.semantics.proofs.InvariantLemmas.{Fuel}
use Rattle.semantics.proofs.VisibleStepsLemmas as VisibleSteps
use Rattle.semantics.proofs.InitializerStepsLemmas as InitializerSteps
use Rattle.semantics.proofs.TurnKindsLemmas as TurnKinds
use Rattle.semantics.proofs.TurnKindsLemmas.{stepping}

-- what is left after one instruction of an initializer alone
peel : (P : Program) (env : Environment) (c n : ℕ) (f : Frame) (fs : List Frame) (own last : Region) →
    RunsAlone P env c (f ∷ fs) own n last →
    (m : QuietMove) × (k : ℕ) × (quiet_step P env c f own ≡ Leaves m) × (gs : List Frame)
    × (moved m.move f fs ≡ Some gs)
    × RunsAlone P env c gs m.region k last × (n ≡ 1 + m.elements + k)
peel P env c n f fs own last (Step {gs = gs} {m = m} {n = k} q leads rest) = (m, k, q, gs, leads, rest, refl)

run_over : (P : Program) (env : Environment) (c n : ℕ) (own last : Region) → RunsAlone P env c [] own n last
    → own ≡ last
run_over P env c n own last Over = refl

standing_over : (fs : List Frame) (l : Level) (ls : List Level) → standing fs (l ∷ ls) ≡ Going fs (l ∷ ls)
standing_over [] l ls = refl
standing_over (f ∷ fs) l ls = refl

module _ (S : Setting) where
  -- ---- waves fall going up the stack

  lower : (c d : ℕ) → is_below S.I S.wave c d ≡ true → S.wave d < S.wave c
  lower c d b = ltb-true _ _ (and_parts (S.I.holds d) (nat_lt (S.wave d) (S.wave c)) b).1

  accepted : (c d : ℕ) → is_below S.I S.wave c d ≡ true → S.I.holds d ≡ true
  accepted c d b = (and_parts (S.I.holds d) (nat_lt (S.wave d) (S.wave c)) b).0

  -- c may use d, so d is not among the accepted classes of the stack
  not_above : (c d : ℕ) (ls : List Level) → is_below S.I S.wave c d ≡ true → Higher S (S.wave c) ls → On d ls → ⊥
  not_above c d ls b higher on =
      let down : S.wave d < S.wave c = lower c d b in
      let up : S.wave c < S.wave d = ltb-true _ _ (higher d on (accepted c d b)) in
      omega arith

  not_self : (c d : ℕ) → is_below S.I S.wave c d ≡ true → d ≢ c
  not_self c d b same =
      let down : S.wave d < S.wave c = lower c d b in
      let k : S.wave d ≡ S.wave c = ap S.wave same in
      omega arith

  free : (fuel : Fuel) (w : World) (t : ℕ) (fs : List Frame) (l : Level) (ls : List Level)
      → Invariant.Invariant S fuel w →
      thread_at w t ≡ Going fs (l ∷ ls) → Higher S (S.wave l.initialization.class) ls →
      (d : ℕ) → is_below S.I S.wave l.initialization.class d ≡ true → w.shared.states d ≢ InProgress t
  free fuel w t fs l ls inv at higher d b s =
      let on : (d ≡ l.initialization.class) ⊎ On d ls =
      subst (OnThread d) at (inv.busy d t (accepted l.initialization.class d b) s) in
      elim on [
        | inl e ↦ not_self l.initialization.class d b e
        | inr o ↦ not_above l.initialization.class d ls b higher o
      ]

  higher_over : (l : Level) (ls : List Level) (d : ℕ) → is_below S.I S.wave l.initialization.class d ≡ true
      → Higher S (S.wave l.initialization.class) ls →
      Higher S (S.wave d) (l ∷ ls)
  higher_over l ls d b higher c (inl e) a =
      let down : S.wave d < S.wave l.initialization.class = lower l.initialization.class d b in
      let k : S.wave c ≡ S.wave l.initialization.class = ap S.wave e in
      lt-ltb _ _ (omega arith)
  higher_over l ls d b higher c (inr on) a =
      let down : S.wave d < S.wave l.initialization.class = lower l.initialization.class d b in
      let up : S.wave l.initialization.class < S.wave c = ltb-true _ _ (higher c on a) in
      lt-ltb _ _ (omega arith)

  apart_above : (c d : ℕ) (ls : List Level) → Higher S (S.wave c) ls → On d ls → S.I.holds d ≡ true → (d == c) ≡ false
  apart_above c d ls higher on a = elim (tested (d == c)) [
    | inl e ↦
        let up : S.wave c < S.wave d = ltb-true _ _ (higher d on a) in
        let k : S.wave d ≡ S.wave c = ap S.wave (eqb-true d c e) in
        absurd (omega arith)
    | inr e ↦ e
  ]

  -- the stack below the topmost accepted initialization, whose class alone changed
  rest_keep : (fuel : Fuel) (sh sh' : SharedState) (t c x : ℕ) (fs : List Frame) (ls : List Level)
      → Invariant.Tower S sh fuel t fs ls →
      Higher S (S.wave c) ls → sh'.states ≡ sh.states → ((d : ℕ) → (d == c) ≡ false → sh'.regions d ≡ sh.regions d) →
      Invariant.Tower S sh' (shared_out fuel c x) t fs ls
  rest_keep fuel sh sh' t c x fs ls rest higher same others =
      Invariant.tower_keep S sh sh' fuel (shared_out fuel c x) t fs ls rest
      (record {
        classes = λ d on a s.
            let q : (d == c) ≡ false = apart_above c d ls higher on a in
            (ap (λ (st : States). st d) same ∙ s, others d q, rw q refl);
        names = VisibleSteps.same_names S sh.states sh'.states same;
      })

  begun_facts : (c : ℕ) (b : Bool) (left : List ℕ) (f : Frame) (fs : List Frame) (own : Region) (x : ℕ) →
      Invariant.Progress S c b left (f ∷ fs) own x →
      (n : ℕ) × (b ≡ true) × (left ≡ []) × RunsAlone S.P (below S.I S.wave c) c (f ∷ fs) own n (S.I.region c)
      × (n + 1 ≤ x)
  begun_facts c true left f fs own x (n, e, run, le) = (n, refl, e, run, le)
  begun_facts c false left f fs own x (n, e, bs, run, le) = cc

  progress_as : (c : ℕ) (b b' : Bool) (left : List ℕ) (fs : List Frame) (own own' : Region) (x x' : ℕ) → b' ≡ b
      → own' ≡ own → x' ≡ x →
      Invariant.Progress S c b left fs own x → Invariant.Progress S c b' left fs own' x'
  progress_as c b b' left fs own own' x x' e1 e2 e3 h = rw (e1, e2, e3) h

  -- a thread with an accepted class's initialization highest, and what the invariant says of it
  pub record OnAccepted (fuel : Fuel) (w : World) (t : ℕ) (fs : List Frame) (l : Level) (ls : List Level) : Type 0 where
    pub at : thread_at w t ≡ Going fs (l ∷ ls)
    pub holds : S.I.holds l.initialization.class ≡ true
    pub by : w.shared.states l.initialization.class ≡ InProgress t
    pub pending : l.initialization.pending ≡ None
    pub progress : Invariant.Progress S l.initialization.class l.initialization.begun l.initialization.left fs
        (w.shared.regions l.initialization.class) (fuel l.initialization.class)
    pub higher : Higher S (S.wave l.initialization.class) ls
    pub rest : Invariant.Tower S w.shared fuel t l.under ls

  module _ (fuel : Fuel) (w v : World) (t : ℕ) (l : Level) (ls : List Level) (b : TurnKinds.Beside S fuel w v) where
    abbrev pub c : ℕ
    c = l.initialization.class

    own_is : (c == c) ≡ true
    own_is = eq-eqb _ _ refl

    -- ---- a frame of the initializer on top

    module _ (f : Frame) (fs : List Frame) (on : OnAccepted fuel w t (f ∷ fs) l ls)
        (k : KnowsFrames (known S.I w.shared.states (Class c)) (f ∷ fs)) where
      facts : (n : ℕ) × (l.initialization.begun ≡ true) × (l.initialization.left ≡ [])
          × RunsAlone S.P (below S.I S.wave c) c (f ∷ fs) (w.shared.regions c) n (S.I.region c) × (n + 1 ≤ fuel c)
      facts = begun_facts c l.initialization.begun l.initialization.left f fs _ _ on.progress

      next : (m : QuietMove) × (n : ℕ) × (quiet_step S.P (below S.I S.wave c) c f (w.shared.regions c) ≡ Leaves m)
          × (gs : List Frame) × (moved m.move f fs ≡ Some gs)
          × RunsAlone S.P (below S.I S.wave c) c gs m.region n (S.I.region c) × (facts.0 ≡ 1 + m.elements + n)
      next = peel S.P (below S.I S.wave c) c facts.0 f fs (w.shared.regions c) (S.I.region c) facts.3

      here_steps : (r : Result) → run_row t (Class c) w.shared (S.P.row f) ≡ r →
          step S.P w t ≡ put_thread w t (instructed S.P w.shared t (f ∷ fs) (l ∷ ls) r)
      unfolding step_thread
      here_steps r e =
          stepping S.P w t (Going (f ∷ fs) (l ∷ ls)) on.at
          ∙ ap (λ (x : Result). put_thread w t (instructed S.P w.shared t (f ∷ fs) (l ∷ ls) x)) e

      moves : (outcome : Outcome) (sh' : SharedState) → run_row t (Class c) w.shared (S.P.row f) ≡ Moved outcome sh' →
          QuietRows.MovedQuietly S c w.shared.regions w.shared.pools w.shared.printed w.shared.states next.0 outcome sh'
          →
          TurnKinds.Turn S fuel w v t
      moves outcome sh' e m =
          let gs : List Frame = next.3 in
          let same : left_by S.P outcome (f ∷ fs) (l ∷ ls) ≡ Going gs (l ∷ ls) =
          ap (λ (o : Outcome). left_by S.P o (f ∷ fs) (l ∷ ls)) m.outcome_is
          ∙ (ap (λ (o : Option (List Frame)). going_on S.P (stand o) (f ∷ fs) (l ∷ ls)) next.4
          ∙ standing_over gs l ls) in
          let x : ℕ = next.1 + 1 in
          let amount : shared_out fuel c x c ≡ x = rw own_is refl in
          let going : Invariant.Progress S c true l.initialization.left gs next.0.region x =
          (next.1, facts.2, next.5, omega arith) in
          let going' : Invariant.Progress S c l.initialization.begun l.initialization.left gs (sh'.regions c)
          (shared_out fuel c x c) =
          progress_as c true l.initialization.begun l.initialization.left gs next.0.region (sh'.regions c) x
          (shared_out fuel c x c) facts.1 m.own amount going in
          let tower : Invariant.Tower S sh' (shared_out fuel c x) t gs (l ∷ ls) =
          Invariant.Inside on.holds (ap (λ (st : States). st c) m.states ∙ on.by) on.pending
          (subst (λ (st : States). KnowsFrames (known S.I st (Class c)) gs) (sym m.states)
          (moved_known (known S.I w.shared.states (Class c)) next.0.move f fs gs m.move k next.4)) going' on.higher
          (rest_keep fuel w.shared sh' t c x l.under ls on.rest on.higher m.states m.only.others) in
          TurnKinds.Slower (shared_out fuel c x) (put w t sh' (Going gs (l ∷ ls)))
          (here_steps _ e ∙ ap (λ (th : Thread). Some (put w t sh' th)) same)
          (record {
            inv = Invariant.invariant_put S fuel (shared_out fuel c x) w t sh' _
                (going_within w t (f ∷ fs) (l ∷ ls) on.at) b.inv
                (InitializerSteps.quiet_changes S fuel w t c x (f ∷ fs) gs (l ∷ ls) next.0 outcome sh' b.inv on.at on.by
                m tower);
            erased = erased-stays S.I w v t sh' _ b.erased
                (InitializerSteps.quiet_erased S w.shared sh' v.shared t c b.erased.shared on.holds on.by m.states
                m.only)
                (rw (on.holds, on.at, on.holds) refl);
          })
          (total_less fuel c x S.bound (S.bounded _ on.holds)
          (let h : facts.0 + 1 ≤ fuel c = facts.4 in let q : facts.0 ≡ 1 + next.0.elements + next.1 = next.6 in
          omega arith))
          (λ d u ad s. inl (sym (ap (λ (st : States). st d) m.states) ∙ s))

      go : (r : Result) → run_row t (Class c) w.shared (S.P.row f) ≡ r →
          QuietRows.Calm S t c on.holds w.shared.regions w.shared.pools w.shared.printed w.shared.states next.0 r →
          TurnKinds.Turn S fuel w v t
      go (Moved outcome sh') e m = moves outcome sh' e m
      go (Needs d) e (lo, un) =
          TurnKinds.begin_turn S fuel w v t d (f ∷ fs) (l ∷ ls) b on.at
          (Invariant.Inside on.holds on.by on.pending k on.progress on.higher on.rest) (accepted c d lo) un
          (higher_over l ls d lo on.higher) (here_steps _ e)
      go Waits e which = TurnKinds.Neither (here_steps _ e) (inl which)

      pub quiet_turn : TurnKinds.Turn S fuel w v t
      quiet_turn =
          go (run_row t (Class c) w.shared (S.P.row f)) refl
          (QuietRows.alone S t c on.holds w.shared.regions w.shared.pools w.shared.printed (S.P.row f) w.shared
          (w.shared.regions c) 0 refl
          (record { others = λ d e. refl; same_pools = λ u. refl; same_printed = refl })
          b.inv.sane b.inv.named b.inv.sound on.by (free fuel w t (f ∷ fs) l ls b.inv on.at on.higher)
          (S.lawful.row _ (λ d. true) f k.0 (λ d is. refl)) next.0 next.2)

    -- ---- the initialization on top

    module _ (on : OnAccepted fuel w t [] l ls) where
      finish_turn : w.shared.regions c ≡ S.I.region c → 0 < fuel c →
          step S.P w t ≡ put_thread w t (Some (finishes w.shared c l.under ls)) → TurnKinds.Turn S fuel w v t
      finish_turn settled le stepped =
          let same : standing l.under ls ≡ Going l.under ls =
          Invariant.tower_standing S w.shared fuel t l.under ls on.rest in
          TurnKinds.Slower (shared_out fuel c 0) (put w t (set_state w.shared c Initialized) (Going l.under ls))
          (stepped ∙ ap (λ (th : Thread). Some (put w t (set_state w.shared c Initialized) th)) same)
          (record {
            inv = Invariant.invariant_put S fuel (shared_out fuel c 0) w t _ _ (going_within w t [] (l ∷ ls) on.at)
                b.inv
                (InitializerSteps.finish_changes S fuel w t [] l ls b.inv on.at on.holds on.by settled on.higher
                on.rest);
            erased = erased-stays S.I w v t _ _ b.erased
                (InitializerSteps.finish_erased S w.shared v.shared c b.erased.shared on.holds settled
                (hidden_by S.I w.shared.states c t on.holds on.by))
                (rw (on.at, on.holds) refl);
          })
          (total_less fuel c 0 S.bound (S.bounded _ on.holds) le)
          (λ d u ad s. elim (tested (d == c)) [
            | inl e ↦ (let clash : Initialized ≡ InProgress u = rw e at s in cc)
            | inr e ↦ inl (rw e at s)
          ])

      -- the stack alone changes, and the fuel of the class on top
      stack_turn : (x : ℕ) (gs : List Frame) (l' : Level) → l'.initialization.class ≡ c → l'.under ≡ l.under
          → x < fuel c →
          Invariant.Tower S w.shared (shared_out fuel c x) t gs (l' ∷ ls)
          → step S.P w t ≡ Some (put w t w.shared (Going gs (l' ∷ ls))) →
          TurnKinds.Turn S fuel w v t
      stack_turn x gs l' same same_under le tower stepped =
          TurnKinds.Slower (shared_out fuel c x) (put w t w.shared (Going gs (l' ∷ ls))) stepped
          (record {
            inv = Invariant.invariant_put S fuel (shared_out fuel c x) w t _ _ (going_within w t [] (l ∷ ls) on.at)
                b.inv
                (InitializerSteps.stack_changes S fuel (shared_out fuel c x) w t (Going gs (l' ∷ ls)) b.inv
                (λ d u ad e s. InitializerSteps.own_fuel S fuel w.shared.states t c x on.by d u e s)
                (λ d ad s. InitializerSteps.own_fuel_fresh S fuel w.shared.states t c x on.by d s)
                (λ d o. on_same d (subst (OnThread d) on.at o)) tower);
            erased = erased-stays S.I w v t _ _ b.erased b.erased.shared (rw (on.at, same, same_under, on.holds) refl);
          })
          (total_less fuel c x S.bound (S.bounded _ on.holds) le)
          (λ d u ad s. inl s)
        where
          on_same : (d : ℕ) → (d ≡ c) ⊎ On d ls → (d ≡ l'.initialization.class) ⊎ On d ls
          on_same d (inl e) = inl (e ∙ sym same)
          on_same d (inr o) = inr o

      rest_now : (x : ℕ) → Invariant.Tower S w.shared (shared_out fuel c x) t l.under ls
      rest_now x = rest_keep fuel w.shared w.shared t c x l.under ls on.rest on.higher refl (λ d e. refl)

      begun_level : Level
      begun_level = record { initialization = record l.initialization { begun = true }; under = l.under }

      after_start : (n : ℕ) (o : Option Frame) → S.P.initializer c ≡ o → l.initialization.left ≡ [] →
          RunsAlone S.P (below S.I S.wave c) c (body o) (w.shared.regions c) n (S.I.region c) → n + 2 ≤ fuel c →
          step S.P w t ≡ put_thread w t (Some (initializes w.shared l.initialization l.under ls o))
          → TurnKinds.Turn S fuel w v t
      unfolding begun_level
      after_start n None ec el run le stepped =
          finish_turn (run_over S.P (below S.I S.wave c) c n (w.shared.regions c) (S.I.region c) run)
          (omega arith) stepped
      after_start n (Some g) ec el run le stepped =
          let amount : shared_out fuel c (n + 1) c ≡ n + 1 = rw own_is refl in
          let going : Invariant.Progress S c true l.initialization.left (g ∷ []) (w.shared.regions c) (n + 1) =
          (n, el, run, omega arith) in
          stack_turn (n + 1) (g ∷ []) begun_level refl refl (omega arith)
          (Invariant.Inside on.holds on.by on.pending
          (S.lawful.initializer_names (known S.I w.shared.states (Class c)) c g ec, tt)
          (progress_as c true true l.initialization.left (g ∷ []) (w.shared.regions c) (w.shared.regions c) (n + 1)
          (shared_out fuel c (n + 1) c)
          refl refl amount going)
          on.higher (rest_now (n + 1)))
          stepped

      here : step S.P w t ≡ put_thread w t
          (step_parents S.P w.shared t l.initialization l.under ls l.initialization.left l.initialization.begun)
      unfolding step_thread
      here = stepping S.P w t (Going [] (l ∷ ls)) on.at ∙ ap
          (λ x. put_thread w t (step_initialization S.P w.shared t l.initialization l.under ls x)) on.pending

      passed_level : List ℕ → Level
      passed_level ds = record { initialization = record l.initialization { left = ds }; under = l.under }

      -- the next parent d
      parent_turn : (d : ℕ) (ds : List ℕ) (n : ℕ) → l.initialization.left ≡ d ∷ ds → l.initialization.begun ≡ false
          → is_below S.I S.wave c d ≡ true →
          AllByRecursion (λ p. is_below S.I S.wave c p ≡ true) ds →
          RunsAlone S.P (below S.I S.wave c) c (body (S.P.initializer c)) (w.shared.regions c) n (S.I.region c) →
          n + 2 + length (d ∷ ds) ≤ fuel c → TurnKinds.Turn S fuel w v t
      unfolding passed_level
      parent_turn d ds n el eb lo los run le =
          let stepped : step S.P w t ≡ put_thread w t
          (passes S.P w.shared t l.initialization l.under ls d ds (usable t (w.shared.states d))) =
          here ∙ ap (λ (x : List ℕ). put_thread w t
          (step_parents S.P w.shared t l.initialization l.under ls x l.initialization.begun)) el in
          let as_used : (u : Usability) → usable t (w.shared.states d) ≡ u →
          step S.P w t ≡ put_thread w t (passes S.P w.shared t l.initialization l.under ls d ds u) =
          λ u e. stepped
          ∙ ap (λ (x : Usability). put_thread w t (passes S.P w.shared t l.initialization l.under ls d ds x)) e in
          elim (QuietRows.below_as S t c on.holds w.shared.regions w.shared.pools w.shared.printed w.shared b.inv.sound
          (free fuel w t [] l ls b.inv on.at on.higher) d lo) [
            | QuietRows.IsReady r s ↦
                let x : ℕ = n + 2 + length ds in
                let amount : shared_out fuel c x c ≡ x = rw own_is refl in
                let going : Invariant.Progress S c false ds [] (w.shared.regions c) x =
                (n, refl, los, run, omega arith) in
                stack_turn x [] (passed_level ds) refl refl (omega arith)
                (Invariant.Inside on.holds on.by on.pending tt
                (progress_as c false l.initialization.begun ds [] (w.shared.regions c) (w.shared.regions c) x
                (shared_out fuel c x c) eb refl amount going)
                on.higher (rest_now x))
                (as_used _ r)
            | QuietRows.IsFresh f s ↦
                TurnKinds.begin_turn S fuel w v t d [] (l ∷ ls) b on.at
                (Invariant.Inside on.holds on.by on.pending tt on.progress on.higher on.rest)
                (accepted c d lo) s (higher_over l ls d lo on.higher) (as_used _ f)
            | QuietRows.IsBusy y u s o ↦ TurnKinds.Neither (as_used _ y) (inl (d, u, accepted c d lo, s, o))
          ]

      go_initialization : (left : List ℕ) (begun : Bool) → l.initialization.left ≡ left → l.initialization.begun ≡ begun
          →
          Invariant.Progress S c begun left [] (w.shared.regions c) (fuel c) → TurnKinds.Turn S fuel w v t
      go_initialization (d ∷ ds) true el eb (n, e, run, le) = cc
      go_initialization (d ∷ ds) false el eb (n, e, bs, run, le) = parent_turn d ds n el eb bs.0 bs.1 run le
      go_initialization [] false el eb (n, e, bs, run, le) =
          after_start n (S.P.initializer c) refl el run (omega arith)
          (here
          ∙ (ap
          (λ (x : List ℕ). put_thread w t
          (step_parents S.P w.shared t l.initialization l.under ls x l.initialization.begun)) el
          ∙ ap (λ (x : Bool). put_thread w t (step_parents S.P w.shared t l.initialization l.under ls [] x)) eb))
      go_initialization [] true el eb (n, e, run, le) =
          finish_turn (run_over S.P (below S.I S.wave c) c n (w.shared.regions c) (S.I.region c) run) (omega arith)
          (here
          ∙ (ap
          (λ (x : List ℕ). put_thread w t
          (step_parents S.P w.shared t l.initialization l.under ls x l.initialization.begun)) el
          ∙ ap (λ (x : Bool). put_thread w t (step_parents S.P w.shared t l.initialization l.under ls [] x)) eb))

      pub initialization_turn : TurnKinds.Turn S fuel w v t
      initialization_turn = go_initialization l.initialization.left l.initialization.begun refl refl on.progress
