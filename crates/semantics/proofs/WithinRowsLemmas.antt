-- What a row that stays within a scope does: what it needs, and which frames it leaves.
use Rattle.std.proofs.Common.{◌≡◌, ℕ, Bool, true, false, List, [], ◌∷◌, Option, Some, None, option_map, refl, subst}
use Rattle.std.specs.List.{AllByRecursion}
use Rattle.vm_state.specs.declared.value.Value.{Value}
use Rattle.vm_state.specs.declared.value.Name.{Name}
use Rattle.vm_state.specs.declared.value.Maker.{Maker}
use Rattle.built_in.specs.declared.class_id.ClassId.{ClassId}
use Rattle.vm_state.specs.declared.frame.Frame.{Frame}
use Rattle.vm_state.specs.declared.frame.Activity.{Activity}
use Rattle.vm_state.specs.declared.object.Monitor.{Monitor}
use Rattle.vm_state.specs.declared.classes.ClassState.{ClassState}
use Rattle.vm_state.specs.declared.classes.ClassState.TheVariants.{Uninitialized}
use Rattle.vm_state.specs.declared.classes.Usability.{Usability}
use Rattle.vm_state.specs.declared.classes.Usability.TheVariants.{Ready, Fresh, Busy, Broken}
use Rattle.vm_state.specs.Operands.{OperandStack, pushed}
use Rattle.vm_state.specs.Statics.{usable}
use Rattle.vm_state.specs.Values.{value_of}
use Rattle.vm_state.specs.SharedState.{SharedState, pool_of, set_pool, set_region, with_field, with_monitor}
use Rattle.vm_state.specs.SharedState.{monitor_of}
use Rattle.semantics.specs.Rows.{Move, Stays, Becomes, Calls, Returns, Outcome, Next, Raise, Halt, Row, Ends}
use Rattle.semantics.specs.Rows.{UseClass, ReadStatic, WriteStatic, AskClass, LookInto, Change}
use Rattle.semantics.specs.Rows.{Make, UseMonitor, Print}
use Rattle.semantics.specs.Rows.{Result, Moved, Needs, Waits, Lock, Blocked, Answered, lock_monitor, on_usable, on_lock}
use Rattle.semantics.specs.Rows.{run_row}
use Rattle.semantics.specs.Programs.{Program}
use Rattle.semantics.specs.Moves.{advanced, with_operands, received, moved, Left, Stand, Throw, Stop, stand, left_in}
use Rattle.semantics.specs.Moves.{emptied, caught, unwound}
use Rattle.semantics.specs.Settling.{entered}
use Rattle.semantics.specs.Bounds.{Scope, MayCall, MovesWithin, EndsWithin, IsInScope}
use Rattle.semantics.proofs.TestsLemmas.{from_some}
use Rattle.semantics.proofs.UsabilitiesLemmas.{usable_fresh}
use Rattle.semantics.proofs.FrameMovesLemmas.{returned_all}

-- ---- in a shared state

module _ (P : Program) (scope : Scope) (t : ℕ) (maker : Maker) where
  -- the states of classes stay as they are, and what is needed has not begun
  abbrev pub Keeps : (ℕ → ClassState) → Result → Type 0
  Keeps states (Moved outcome new) = EndsWithin scope outcome × (new.states ≡ states)
  Keeps states (Needs d) = (scope.needs ≡ Some d) × (states d ≡ Uninitialized)
  Keeps states Waits = Unit {0}

  by_use : (states : ℕ → ClassState) (c : ℕ) (ready broken : Result) (u : Usability) → usable t (states c) ≡ u →
      scope.needs ≡ Some c → Keeps states ready → Keeps states broken →
      Keeps states (on_usable u ready (Needs c) Waits broken)
  by_use states c ready broken Ready is needs on off = on
  by_use states c ready broken Fresh is needs on off = (needs, usable_fresh t (states c) is)
  by_use states c ready broken Busy is needs on off = tt
  by_use states c ready broken Broken is needs on off = off

  by_lock : (states : ℕ → ClassState) (go : Bool → Monitor → Result) (lock : Lock) →
      ((done : Bool) (m : Monitor) → Keeps states (go done m)) → Keeps states (on_lock lock Waits go)
  by_lock states go Blocked on = tt
  by_lock states go (Answered done m) on = on done m

  pub row_keeps : (row : Row) (sh : SharedState) → IsInScope P scope row → Keeps sh.states (run_row t maker sh row)
  row_keeps (Ends outcome) sh within = (within, refl)
  row_keeps (UseClass c next) sh within =
      by_use sh.states c _ _ (usable t (sh.states c)) refl within.0 (row_keeps (next true) sh (within.1 true))
      (row_keeps (next false) sh (within.1 false))
  row_keeps (ReadStatic c f next) sh within =
      by_use sh.states c _ _ (usable t (sh.states c)) refl within.0
      (row_keeps (next ((sh.regions c).fields f)) sh (within.2 ((sh.regions c).fields f))) (tt, refl)
  row_keeps (WriteStatic c f v next) sh within =
      by_use sh.states c _ _ (usable t (sh.states c)) refl within.0
      (row_keeps next (set_region sh c (with_field (sh.regions c) f v)) within.2) (tt, refl)
  row_keeps (AskClass x next) sh within = row_keeps (next _) sh (within _)
  row_keeps (LookInto x part next) sh within = row_keeps (next _) sh (within _)
  row_keeps (Change x i v next) sh within = row_keeps next _ within
  row_keeps (Make class slots next) sh within = row_keeps (next _) _ (within _)
  row_keeps (UseMonitor x enter next) sh within =
      by_lock sh.states _ (lock_monitor t enter (monitor_of ((pool_of sh x.maker).at x.number)))
      (λ done m. row_keeps (next done) (set_pool sh x.maker (with_monitor (pool_of sh x.maker) x.number m))
      (within.1 done))
  row_keeps (Print text next) sh within = row_keeps next _ within.1

-- ---- the frames that are left

-- A property of activities goes from the frames before an outcome to those after it, where what it calls has it.
module _ (Q : Activity → Type 0) where
  abbrev pub Have : List Frame → Type 0
  Have fs = AllByRecursion (λ (f : Frame). Q f.activity) fs

  pub received_has : (v : Option Value) (g back : Frame) → Q g.activity → received v g ≡ Some back → Q back.activity
  received_has None g back h e = subst (λ (x : Frame). Q x.activity) (from_some e) h
  received_has (Some v) g back h e = by_room (pushed v g.operands) e
    where
      by_room : (o : Option OperandStack) → option_map (λ s. advanced (with_operands g s)) o ≡ Some back
          → Q back.activity
      by_room None e = cc
      by_room (Some s) e = subst (λ (x : Frame). Q x.activity) (from_some e) h

  abbrev pub LeftHave : Left → Type 0
  LeftHave (Stand frames) = Have frames
  LeftHave (Throw x class) = Unit {0}
  LeftHave (Stop kind) = Unit {0}

  pub unwound_has : (P : Program) (x : Name) (class : ClassId) (fs : List Frame) → Have fs
      → LeftHave (unwound P x class fs)
  unwound_has P x class [] h = tt
  unwound_has P x class (f ∷ fs) h =
      by_handler (P.handler f.activity f.place class) (unwound P x class fs) (unwound_has P x class fs h.1)
    where
      by_room : (place : ℕ) (o : Option OperandStack) →
          LeftHave (stand (option_map (λ g. g ∷ fs) (option_map (λ s. record f { place = place; operands = s }) o)))
      by_room place None = tt
      by_room place (Some s) = h

      by_handler : (o : Option ℕ) (outer : Left) → LeftHave outer → LeftHave (caught o x f fs outer)
      by_handler None outer k = k
      by_handler (Some place) outer k = by_room place (pushed (value_of x) (emptied f.operands))

  module _ (scope : Scope) (called : (a : Activity) → MayCall scope a → Q a) where
    -- the frame on top after a move that does not return
    pub entered_has : (move : Move) (f g : Frame) → MovesWithin scope move → Q f.activity → entered move f ≡ Some g
        → Q g.activity
    entered_has (Stays place locals operands) f g within h e = subst (λ (x : Frame). Q x.activity) (from_some e) h
    entered_has (Becomes k) f g within h e =
        subst (λ (x : Frame). Q x.activity) (from_some e) (called k.activity within)
    entered_has (Calls operands k) f g within h e =
        subst (λ (x : Frame). Q x.activity) (from_some e) (called k.activity within)
    entered_has (Returns v) f g within h e = cc

    moved_has : (move : Move) (f : Frame) (fs gs : List Frame) → MovesWithin scope move → Have (f ∷ fs) →
        moved move f fs ≡ Some gs → Have gs
    moved_has (Stays place locals operands) f fs gs within h e = subst Have (from_some e) h
    moved_has (Becomes g) f fs gs within h e = subst Have (from_some e) (called g.activity within, h.1)
    moved_has (Calls operands g) f fs gs within h e = subst Have (from_some e) (called g.activity within, h)
    moved_has (Returns v) f fs gs within h e =
        returned_all (λ (x : Frame). Q x.activity) v (received_has v) fs gs h.1 e

    pub left_has : (outcome : Outcome) (fs : List Frame) → EndsWithin scope outcome → Have fs
        → LeftHave (left_in outcome fs)
    left_has (Next move) [] within h = tt
    left_has (Next move) (f ∷ fs) within h = by_room (moved move f fs) refl
      where
        by_room : (o : Option (List Frame)) → moved move f fs ≡ o → LeftHave (stand o)
        by_room None is = tt
        by_room (Some gs) is = moved_has move f fs gs within h is
    left_has (Raise x class) fs within h = tt
    left_has (Halt kind) fs within h = tt
