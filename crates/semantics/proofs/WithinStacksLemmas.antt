-- The stack of a thread whose frames run, and whose initializations are begun, within bounds; each step keeps it so.
use Rattle.std.proofs.Common.{◌≡◌, inl, inr, ℕ, Bool, true, false, List, [], ◌∷◌, Option, Some, None, ◌==◌}
use Rattle.std.proofs.Common.{refl, sym, ap, subst, ◌∙◌, eqb-true, eq-eqb}
use Rattle.std.specs.List.{AllByRecursion, Contains}
use Rattle.vm_state.specs.declared.value.Name.{Name}
use Rattle.vm_state.specs.declared.value.Maker.TheVariants as makers
use Rattle.vm_state.specs.declared.frame.Frame.{Frame}
use Rattle.vm_state.specs.declared.frame.Activity.{Activity}
use Rattle.vm_state.specs.declared.initialization.Initialization.{Initialization}
use Rattle.vm_state.specs.declared.initialization.Level.{Level}
use Rattle.vm_state.specs.declared.classes.ClassState.{ClassState}
use Rattle.vm_state.specs.declared.classes.ClassState.TheVariants.{Uninitialized, InProgress, Initialized, Erroneous}
use Rattle.vm_state.specs.declared.classes.Usability.{Usability}
use Rattle.vm_state.specs.declared.classes.Usability.TheVariants.{Ready, Fresh, Busy, Broken}
use Rattle.vm_state.specs.Statics.{usable}
use Rattle.vm_state.specs.Shares.{begun}
use Rattle.vm_state.specs.SharedState.{SharedState, set_state}
use Rattle.semantics.specs.Rows.{Result, Moved, Needs, Waits, run_row}
use Rattle.semantics.specs.Programs.{Program}
use Rattle.semantics.specs.Moves.{Left, Stand, Throw, Stop, left_in, unwound}
use Rattle.semantics.specs.Steps.{Thread, Going, Ended, After, maker_of, standing, settled, going_on}
use Rattle.semantics.specs.Steps.{begins, instructed, fails, finishes, initializes, on}
use Rattle.semantics.specs.Steps.{passes, step_parents, step_initialization, step_thread}
use Rattle.semantics.specs.Bounds.{Bounds, MayCall, nothing, IsBounded, MayRun, Initializes, Called, IsUse}
use Rattle.vm_state.proofs.ListLemmas.{tested}
use Rattle.semantics.proofs.TestsLemmas.{from_some}
use Rattle.semantics.proofs.UsabilitiesLemmas.{usable_fresh}
use Rattle.semantics.proofs.StacksLemmas.{On}
use Rattle.semantics.proofs.WavesLemmas.{Contains-first, Contains-later}
use Rattle.semantics.proofs.WithinRowsLemmas.{Keeps, row_keeps, LeftHave, unwound_has, left_has}

abbrev pub States : Type 0
States = ℕ → ClassState

module _ (P : Program) (B : Bounds) where
  -- ---- the invariant

  -- what may run in a frame on these initializations
  abbrev pub RunsOn : List Level → Activity → Type 0
  RunsOn [] a = Unit {0}
  RunsOn (l ∷ ls) a = MayRun P B l.initialization.class a

  abbrev pub Run : List Level → List Frame → Type 0
  Run ls fs = AllByRecursion (λ (f : Frame). RunsOn ls f.activity) fs

  -- what may be initialized on these initializations
  abbrev pub BeginsOn : List Level → ℕ → Type 0
  BeginsOn [] d = Unit {0}
  BeginsOn (l ∷ ls) d = IsUse P B l.initialization.class d

  -- thread t's initialization of a class on others
  pub record Rises (states : States) (t : ℕ) (e : Initialization) (ls : List Level) : Type 0 where
    pub busy : states e.class ≡ InProgress t
    pub apart : On e.class ls → ⊥
    pub begun : BeginsOn ls e.class
    pub parents : (p : ℕ) → Contains e.left p → Contains (P.parents e.class) p

  abbrev pub Tower : States → ℕ → List Frame → List Level → Type 0
  Tower states t fs [] = Unit {0}
  Tower states t fs (l ∷ ls) = Run (l ∷ ls) fs × Rises states t l.initialization ls × Tower states t l.under ls

  -- what is below the frames on top
  abbrev pub Under : States → ℕ → List Level → Type 0
  Under states t [] = Unit {0}
  Under states t (l ∷ ls) = Rises states t l.initialization ls × Tower states t l.under ls

  abbrev pub Stands : States → ℕ → Thread → Type 0
  Stands states t (Going fs ls) = Tower states t fs ls
  Stands states t (Ended end) = Unit {0}

  -- ---- parts

  no_run : (fs : List Frame) → Run [] fs
  no_run [] = tt
  no_run (f ∷ fs) = (tt, no_run fs)

  pub tower_run : (states : States) (t : ℕ) (fs : List Frame) (ls : List Level) → Tower states t fs ls → Run ls fs
  tower_run states t fs [] h = no_run fs
  tower_run states t fs (l ∷ ls) h = h.0

  tower_under : (states : States) (t : ℕ) (fs : List Frame) (ls : List Level) → Tower states t fs ls
      → Under states t ls
  tower_under states t fs [] h = tt
  tower_under states t fs (l ∷ ls) h = (h.1, h.2)

  tower_of : (states : States) (t : ℕ) (fs : List Frame) (ls : List Level) → Run ls fs → Under states t ls
      → Tower states t fs ls
  tower_of states t fs [] r u = tt
  tower_of states t fs (l ∷ ls) r u = (r, u.0, u.1)

  standing_stands : (states : States) (t : ℕ) (fs : List Frame) (ls : List Level) → Tower states t fs ls
      → Stands states t (standing fs ls)
  standing_stands states t [] [] h = tt
  standing_stands states t [] (l ∷ ls) h = h
  standing_stands states t (f ∷ fs) ls h = h

  -- a class on the stack is in progress
  pub tower_busy : (states : States) (t : ℕ) (fs : List Frame) (ls : List Level) (c : ℕ) → Tower states t fs ls
      → On c ls → states c ≡ InProgress t
  tower_busy states t fs [] c h on_it = absurd on_it
  tower_busy states t fs (l ∷ ls) c h (inl e) = ap states e ∙ h.1.busy
  tower_busy states t fs (l ∷ ls) c h (inr on_it) = tower_busy states t l.under ls c h.2 on_it

  -- ---- states change

  -- the classes on the stack stay in progress
  abbrev pub KeepsOn : States → States → ℕ → List Level → Type 0
  KeepsOn states new t ls = (c : ℕ) → On c ls → states c ≡ InProgress t → new c ≡ InProgress t

  pub tower_keeps : (states new : States) (t : ℕ) (fs : List Frame) (ls : List Level) → KeepsOn states new t ls
      → Tower states t fs ls → Tower new t fs ls
  tower_keeps states new t fs [] keep h = tt
  tower_keeps states new t fs (l ∷ ls) keep h = (
    h.0,
    record {
      busy = keep l.initialization.class (inl refl) h.1.busy;
      apart = h.1.apart;
      begun = h.1.begun;
      parents = h.1.parents;
    },
    tower_keeps states new t l.under ls (λ c on_it. keep c (inr on_it)) h.2,
  )

  pub stands_keeps : (states new : States) (t : ℕ) (th : Thread)
      → ((c : ℕ) → states c ≡ InProgress t → new c ≡ InProgress t) → Stands states t th → Stands new t th
  stands_keeps states new t (Going fs ls) keep h = tower_keeps states new t fs ls (λ c on_it. keep c) h
  stands_keeps states new t (Ended end) keep h = tt

  -- the classes that other threads initialize stay in progress
  abbrev pub KeepsOthers : States → States → ℕ → Type 0
  KeepsOthers states new t = (c u : ℕ) → (u == t) ≡ false → states c ≡ InProgress u → new c ≡ InProgress u

  -- what a step of thread t has to show
  abbrev pub Follows : States → ℕ → After → Type 0
  Follows states t a = Stands a.shared.states t a.thread × KeepsOthers states a.shared.states t

  as_after : (states : States) (t : ℕ) (b a : After) → b ≡ a → Follows states t b → Follows states t a
  as_after states t b a same h = subst (Follows states t) same h

  same_others : (states new : States) (t : ℕ) → new ≡ states → KeepsOthers states new t
  same_others states new t same c u other by = ap (λ (s : States). s c) same ∙ by

  same_tower : (states new : States) (t : ℕ) (fs : List Frame) (ls : List Level) → new ≡ states → Tower states t fs ls
      → Tower new t fs ls
  same_tower states new t fs ls same h = subst (λ (s : States). Tower s t fs ls) (sym same) h

  module _ (t : ℕ) where
    -- one class's state is new, which was this thread's or nobody's
    set_others : (sh : SharedState) (c : ℕ) (s : ClassState) → ((u : ℕ) → sh.states c ≡ InProgress u → u ≡ t)
        → KeepsOthers sh.states (set_state sh c s).states t
    set_others sh c s own d u other by = elim (tested (d == c)) [
      | inl e ↦
          let is_own : u ≡ t = own u (ap sh.states (sym (eqb-true d c e)) ∙ by) in
          let clash : false ≡ true = sym other ∙ eq-eqb u t is_own in cc
      | inr e ↦ rw e by
    ]

    set_keeps : (sh : SharedState) (c : ℕ) (s : ClassState) (ls : List Level) → (On c ls → ⊥)
        → KeepsOn sh.states (set_state sh c s).states t ls
    set_keeps sh c s ls apart d on_it by = elim (tested (d == c)) [
      | inl e ↦ absurd (apart (subst (λ (k : ℕ). On k ls) (eqb-true d c e) on_it))
      | inr e ↦ rw e by
    ]

    in_progress : (u : ℕ) → InProgress t ≡ InProgress u → u ≡ t
    in_progress u e = cc

    -- ---- what is left of the frames

    over : (states : States) (fs : List Frame) (ls : List Level) → Under states t ls → Run ls fs
        → Stands states t (standing fs ls)
    over states fs ls u r = standing_stands states t fs ls (tower_of states t fs ls r u)

    settled_stands : (states : States) (left : Left) (ls : List Level) → Under states t ls → LeftHave (RunsOn ls) left
        → Stands states t (settled left ls)
    settled_stands states (Stand fs) ls u h = over states fs ls u h
    settled_stands states (Throw x class) [] u h = tt
    settled_stands states (Throw x class) (l ∷ ls) u h = (
      tt,
      record { busy = u.0.busy; apart = u.0.apart; begun = u.0.begun; parents = u.0.parents },
      u.1,
    )
    settled_stands states (Stop kind) ls u h = tt

    going_stands : (states : States) (left : Left) (fs : List Frame) (ls : List Level) → Tower states t fs ls →
        LeftHave (RunsOn ls) left → Stands states t (going_on P left fs ls)
    going_stands states (Stand new) fs ls h k = over states new ls (tower_under states t fs ls h) k
    going_stands states (Throw x class) fs ls h k =
        settled_stands states (unwound P x class fs) ls (tower_under states t fs ls h)
        (unwound_has (RunsOn ls) P x class fs (tower_run states t fs ls h))
    going_stands states (Stop kind) fs ls h k = tt

    -- ---- a class begins

    begins_stands : (sh : SharedState) (d : ℕ) (fs : List Frame) (ls : List Level) → Tower sh.states t fs ls →
        sh.states d ≡ Uninitialized → BeginsOn ls d → Follows sh.states t (begins P sh t d fs ls)
    begins_stands sh d fs ls h fresh begin =
        let apart : On d ls → ⊥ =
        λ on_it. (let clash : Uninitialized ≡ InProgress t = sym fresh ∙ tower_busy sh.states t fs ls d h on_it in cc)
        in (
          (
            tt,
            record { busy = rw (eq-eqb d d refl) refl; apart = apart; begun = begin; parents = λ p is. is },
            tower_keeps sh.states _ t fs ls (set_keeps sh d (InProgress t) ls apart) h,
          ),
          set_others sh d (InProgress t)
              (λ u by. (let clash : Uninitialized ≡ InProgress u = sym fresh ∙ by in cc)),
        )

    -- ---- a frame on top

    module _ (bounded : IsBounded P B) where
      may_call : (ls : List Level) (a : Activity) (place : ℕ) → RunsOn ls a → (b : Activity) → MayCall (B a place) b
          → RunsOn ls b
      may_call [] a place r b may = tt
      may_call (l ∷ ls) a place r b may = Called place r may

      pub may_need : (ls : List Level) (a : Activity) (place d : ℕ) → RunsOn ls a → (B a place).needs ≡ Some d →
          (On d ls → ⊥) → BeginsOn ls d
      may_need [] a place d r needs apart = tt
      may_need (l ∷ ls) a place d r needs apart = (λ same. apart (inl same), inr (a, place, r, needs))

      -- a class that has not begun is not on the stack
      pub fresh_apart : (states : States) (fs : List Frame) (ls : List Level) (d : ℕ) → Tower states t fs ls →
          states d ≡ Uninitialized → On d ls → ⊥
      fresh_apart states fs ls d h fresh on_it =
          (let clash : Uninitialized ≡ InProgress t = sym fresh ∙ tower_busy states t fs ls d h on_it in cc)

      instructed_stands : (sh : SharedState) (f : Frame) (fs : List Frame) (ls : List Level)
          → Tower sh.states t (f ∷ fs) ls → (r : Result)
          → Keeps P (B f.activity f.place) t (maker_of t ls) sh.states r →
          (a : After) → instructed P sh t (f ∷ fs) ls r ≡ Some a → Follows sh.states t a
      instructed_stands sh f fs ls h (Moved outcome new) keeps a e =
          let runs = tower_run sh.states t (f ∷ fs) ls h in
          as_after sh.states t _ a (from_some e) (
            going_stands new.states (left_in outcome (f ∷ fs)) (f ∷ fs) ls
                (same_tower sh.states new.states t (f ∷ fs) ls keeps.1 h)
                (left_has (RunsOn ls) (B f.activity f.place) (may_call ls f.activity f.place runs.0) outcome (f ∷ fs)
                keeps.0 runs),
            same_others sh.states new.states t keeps.1,
          )
      instructed_stands sh f fs ls h (Needs d) keeps a e =
          let runs = tower_run sh.states t (f ∷ fs) ls h in
          as_after sh.states t _ a (from_some e)
          (begins_stands sh d (f ∷ fs) ls h keeps.1
          (may_need ls f.activity f.place d runs.0 keeps.0 (fresh_apart sh.states (f ∷ fs) ls d h keeps.1)))
      instructed_stands sh f fs ls h Waits keeps a e = cc

      -- ---- an initialization on top

      none_called : (ls : List Level) (a : Activity) → MayCall nothing a → RunsOn ls a
      none_called ls a may = (let clash : None ≡ Some a = may.1 in cc)

      fails_stands : (sh : SharedState) (e : Initialization) (under : List Frame) (ls : List Level)
          → Rises sh.states t e ls → Tower sh.states t under ls → (r : Result) →
          Keeps P nothing t (makers.Class e.class) sh.states r → (a : After) → fails P e.class under ls r ≡ Some a →
          Follows sh.states t a
      fails_stands sh e under ls on_top h (Moved outcome new) keeps a q =
          let tower = same_tower sh.states new.states t under ls keeps.1 h in
          let busy : new.states e.class ≡ InProgress t = ap (λ (s : States). s e.class) keeps.1 ∙ on_top.busy in
          let others = set_others new e.class Erroneous (λ u by. in_progress u (sym busy ∙ by)) in
          as_after sh.states t _ a (from_some q) (
            going_stands _ (left_in outcome under) under ls
                (tower_keeps new.states _ t under ls (set_keeps new e.class Erroneous ls on_top.apart) tower)
                (left_has (RunsOn ls) nothing (none_called ls) outcome under keeps.0
                (tower_run sh.states t under ls h)),
            λ c u other by. others c u other (ap (λ (s : States). s c) keeps.1 ∙ by),
          )
      fails_stands sh e under ls on_top h (Needs d) keeps a q = cc
      fails_stands sh e under ls on_top h Waits keeps a q = cc

      module _ (sh : SharedState) (e : Initialization) (under : List Frame) (ls : List Level)
          (on_top : Rises sh.states t e ls) (h : Tower sh.states t under ls) where
        finishes_stands : Follows sh.states t (finishes sh e.class under ls)
        finishes_stands = (
          over _ under ls
              (tower_under _ t under ls
              (tower_keeps sh.states _ t under ls (set_keeps sh e.class Initialized ls on_top.apart) h))
              (tower_run sh.states t under ls h),
          set_others sh e.class Initialized (λ u by. in_progress u (sym on_top.busy ∙ by)),
        )

        starts_stands : (o : Option Frame) → P.initializer e.class ≡ o → Follows sh.states t
            (initializes sh e under ls o)
        starts_stands None is = finishes_stands
        starts_stands (Some f) is = (
          (
            (Initializes is, tt),
            record { busy = on_top.busy; apart = on_top.apart; begun = on_top.begun; parents = on_top.parents },
            h,
          ),
          λ c u other by. by,
        )

        passes_stands : (p : ℕ) (ps : List ℕ) → e.left ≡ p ∷ ps → (u : Usability) → usable t (sh.states p) ≡ u →
            (a : After) → passes P sh t e under ls p ps u ≡ Some a → Follows sh.states t a
        passes_stands p ps left Ready is a q =
            as_after sh.states t _ a (from_some q) (
              (
                tt,
                record {
                  busy = on_top.busy;
                  apart = on_top.apart;
                  begun = on_top.begun;
                  parents = λ k at. on_top.parents k
                      (subst (λ (ks : List ℕ). Contains ks k) (sym left) (Contains-later p k ps at));
                },
                h,
              ),
              λ c u other by. by,
            )
        passes_stands p ps left Fresh is a q =
            let fresh : sh.states p ≡ Uninitialized = usable_fresh t (sh.states p) is in
            let tower : Tower sh.states t [] (on e under ∷ ls) = (tt, on_top, h) in
            as_after sh.states t _ a (from_some q)
            (begins_stands sh p [] (on e under ∷ ls) tower fresh (
              λ same. fresh_apart sh.states [] (on e under ∷ ls) p tower fresh (inl same),
              inl (on_top.parents p (subst (λ (ks : List ℕ). Contains ks p) (sym left) (Contains-first p ps))),
            ))
        passes_stands p ps left Busy is a q = cc
        passes_stands p ps left Broken is a q =
            fails_stands sh e under ls on_top h (run_row t (makers.Class e.class) sh (P.orphaned e.class))
            (row_keeps P nothing t (makers.Class e.class) (P.orphaned e.class) sh (bounded.orphaned e.class)) a q

        parents_stand : (left : List ℕ) → e.left ≡ left → (begun : Bool) (a : After) →
            step_parents P sh t e under ls left begun ≡ Some a → Follows sh.states t a
        parents_stand (p ∷ ps) left begun a q = passes_stands p ps left (usable t (sh.states p)) refl a q
        parents_stand [] left false a q =
            as_after sh.states t _ a (from_some q) (starts_stands (P.initializer e.class) refl)
        parents_stand [] left true a q = as_after sh.states t _ a (from_some q) finishes_stands

        initialization_stands : (o : Option Name) (a : After) → step_initialization P sh t e under ls o ≡ Some a →
            Follows sh.states t a
        initialization_stands (Some x) a q =
            fails_stands sh e under ls on_top h (run_row t (makers.Class e.class) sh (P.failing e.class x))
            (row_keeps P nothing t (makers.Class e.class) (P.failing e.class x) sh (bounded.failing e.class x)) a q
        initialization_stands None a q = parents_stand e.left refl e.begun a q

      -- ---- one step

      pub thread_stands : (sh : SharedState) (th : Thread) → Stands sh.states t th → (a : After) →
          step_thread P t sh th ≡ Some a → Follows sh.states t a
      unfolding step_thread
      thread_stands sh (Ended end) h a s = cc
      thread_stands sh (Going [] []) h a s = cc
      thread_stands sh (Going [] (l ∷ ls)) h a s =
          initialization_stands sh l.initialization l.under ls h.1 h.2 l.initialization.pending a s
      thread_stands sh (Going (f ∷ fs) ls) h a s =
          instructed_stands sh f fs ls h (run_row t (maker_of t ls) sh (P.row f))
          (row_keeps P (B f.activity f.place) t (maker_of t ls) (P.row f) sh (bounded.row f)) a s
