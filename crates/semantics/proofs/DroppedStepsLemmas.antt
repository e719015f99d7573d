-- One step of a thread where some objects are left out: it is the same step.
use Rattle.std.proofs.Common.{◌≡◌, ℕ, Bool, true, false, List, [], ◌∷◌, Option, Some, None, refl, ap, slice_get}
use Rattle.vm_state.specs.declared.value.Maker.TheVariants as makers
use Rattle.vm_state.specs.declared.value.Name.{Name}
use Rattle.vm_state.specs.declared.frame.Frame.{Frame}
use Rattle.vm_state.specs.declared.initialization.Initialization.{Initialization}
use Rattle.vm_state.specs.declared.initialization.Level.{Level}
use Rattle.vm_state.specs.declared.classes.ClassState.TheVariants.{InProgress, Initialized, Erroneous}
use Rattle.vm_state.specs.declared.classes.Usability.{Usability}
use Rattle.vm_state.specs.declared.classes.Usability.TheVariants.{Ready, Fresh, Busy, Broken}
use Rattle.vm_state.specs.Shares.{begun}
use Rattle.vm_state.specs.SharedState.{SharedState}
use Rattle.vm_state.specs.Statics.{usable, constant_or, with_constants}
use Rattle.semantics.specs.Rows.{Result, Moved, Needs, Waits, run_row}
use Rattle.semantics.specs.Moves.{Left, Stand, Throw, Stop, left_in, unwound}
use Rattle.semantics.specs.Programs.{Program}
use Rattle.semantics.specs.Steps.{Thread, Going, Ended, After, maker_of, standing, settled, going_on, instructed}
use Rattle.semantics.specs.Steps.{fails, finishes}
use Rattle.semantics.specs.Steps.{initializes, passes, step_parents, step_initialization, step_thread}
use Rattle.semantics.specs.Lawful.{Names, KnowsName, IsLawful}
use Rattle.semantics.specs.helpers.Lawful.{KnowsFrames}
use Rattle.semantics.specs.Drops.{IsDroppedState, KnowsLevels, KnowsThread}
use Rattle.semantics.proofs.ConstantsLemmas.{constants_known}
use Rattle.semantics.proofs.FrameMovesLemmas.{KnowsLeft, left_known, unwound_known}
use Rattle.semantics.proofs.DroppedRowsLemmas.{IsAlike, alike, set_fields-dropped, set_state-dropped}

module _ (P : Program) (lawful : IsLawful P) (kept : Names) (t : ℕ) where
  -- ---- the threads

  known_standing : (fs : List Frame) (ls : List Level) → KnowsFrames kept fs → KnowsLevels kept ls
      → KnowsThread kept (standing fs ls)
  known_standing [] [] k kl = tt
  known_standing [] (l ∷ ls) k kl = (tt, kl)
  known_standing (f ∷ fs) ls k kl = (k, kl)

  known_settled : (left : Left) (ls : List Level) → KnowsLeft kept left → KnowsLevels kept ls
      → KnowsThread kept (settled left ls)
  known_settled (Stand fs) ls k kl = known_standing fs ls k kl
  known_settled (Throw x class) [] k kl = tt
  known_settled (Throw x class) (l ∷ ls) k kl = (tt, (kl.0, k, kl.2))
  known_settled (Stop kind) ls k kl = tt

  known_left : (left : Left) (fs : List Frame) (ls : List Level) → KnowsFrames kept fs → KnowsLevels kept ls
      → KnowsLeft kept left → KnowsThread kept (going_on P left fs ls)
  known_left (Stand new) fs ls kf kl k = known_standing new ls k kl
  known_left (Throw x class) fs ls kf kl k =
      known_settled (unwound P x class fs) ls (unwound_known kept P x class fs k kf) kl
  known_left (Stop kind) fs ls kf kl k = tt

  -- ---- the kinds of step

  -- both make the step, or neither does
  abbrev pub StepsAlike : Option After → Option After → Type 0
  StepsAlike None r = r ≡ None
  StepsAlike (Some a) r =
      (shared : SharedState) × (r ≡ Some (record { shared = shared; thread = a.thread }))
      × IsDroppedState kept a.shared shared × KnowsThread kept a.thread

  begun_dropped : (sh sv : SharedState) → IsDroppedState kept sh sv → (c : ℕ)
      → IsDroppedState kept (begun sh c t (P.statics c)) (begun sv c t (P.statics c))
  begun_dropped sh sv d c =
      set_state-dropped kept _ _
      (set_fields-dropped kept sh sv d c (with_constants (P.statics c) (sh.regions c).fields)
      (with_constants (P.statics c) (sv.regions c).fields)
      (λ f. ap (constant_or (slice_get (P.statics c) f)) (d.fields c f))
      (λ f. constants_known kept (P.statics c) (lawful.statics c) f _ (d.statics c f))) c (InProgress t)

  instructed_alike : (sh sv : SharedState) (fs : List Frame) (ls : List Level) (r s : Result)
      → IsDroppedState kept sh sv → KnowsFrames kept fs → KnowsLevels kept ls → IsAlike kept r s
      → StepsAlike (instructed P sh t fs ls r) (instructed P sv t fs ls s)
  instructed_alike sh sv fs ls (Moved outcome new) s d kf kl a =
      rw a.same (
        a.other,
        refl,
        a.dropped,
        known_left (left_in outcome fs) fs ls kf kl (left_known kept outcome fs a.known kf),
      )
  instructed_alike sh sv fs ls (Needs c) s d kf kl a =
      rw a (begun sv c t (P.statics c), refl, begun_dropped sh sv d c, (tt, (kf, tt, kl)))
  instructed_alike sh sv fs ls Waits s d kf kl a = rw a refl

  fails_alike : (c : ℕ) (fs : List Frame) (ls : List Level) (r s : Result) → KnowsFrames kept fs
      → KnowsLevels kept ls → IsAlike kept r s → StepsAlike (fails P c fs ls r) (fails P c fs ls s)
  fails_alike c fs ls (Moved outcome new) s kf kl a =
      rw a.same (
        _,
        refl,
        set_state-dropped kept new a.other a.dropped c Erroneous,
        known_left (left_in outcome fs) fs ls kf kl (left_known kept outcome fs a.known kf),
      )
  fails_alike c fs ls (Needs e) s kf kl a = rw a refl
  fails_alike c fs ls Waits s kf kl a = rw a refl

  abbrev every : ℕ → Bool
  every c = true

  initialization_alike : (sh sv : SharedState) → IsDroppedState kept sh sv → (e : Initialization) (under : List Frame)
      (ls : List Level) → KnowsFrames kept under → KnowsName kept e.pending → KnowsLevels kept ls → (o : Option Name)
      → KnowsName kept o
      → StepsAlike (step_initialization P sh t e under ls o) (step_initialization P sv t e under ls o)
  initialization_alike sh sv d e under ls kf kp kl (Some x) k =
      fails_alike e.class under ls _ _ kf kl
      (alike kept P every t (makers.Class e.class) (P.failing e.class x) sh sv d
      (lawful.failing kept every e.class x k))
  initialization_alike sh sv d e under ls kf kp kl None none = by_left e.left e.begun
    where
      finished : StepsAlike (Some (finishes sh e.class under ls)) (Some (finishes sv e.class under ls))
      finished =
          (_, refl, set_state-dropped kept sh sv d e.class Initialized, known_standing under ls kf kl)

      by_start : (o : Option Frame) → P.initializer e.class ≡ o
          → StepsAlike (Some (initializes sh e under ls o)) (Some (initializes sv e under ls o))
      by_start None is = finished
      by_start (Some g) is =
          (sv, refl, d, ((lawful.initializer_names kept e.class g is, tt), (kf, kp, kl)))

      by_use : (p : ℕ) (ps : List ℕ) (u : Usability)
          → StepsAlike (passes P sh t e under ls p ps u) (passes P sv t e under ls p ps u)
      by_use p ps Ready = (sv, refl, d, (tt, (kf, kp, kl)))
      by_use p ps Fresh = (_, refl, begun_dropped sh sv d p, (tt, (tt, tt, (kf, kp, kl))))
      by_use p ps Busy = refl
      by_use p ps Broken =
          fails_alike e.class under ls _ _ kf kl
          (alike kept P every t (makers.Class e.class) (P.orphaned e.class) sh sv d
          (lawful.orphaned kept every e.class))

      by_left : (left : List ℕ) (b : Bool)
          → StepsAlike (step_parents P sh t e under ls left b) (step_parents P sv t e under ls left b)
      by_left (p ∷ ps) b = rw (d.states p) (by_use p ps (usable t (sh.states p)))
      by_left [] false = by_start (P.initializer e.class) refl
      by_left [] true = finished

  pub step_alike : (sh sv : SharedState) (th : Thread) → IsDroppedState kept sh sv → KnowsThread kept th
      → StepsAlike (step_thread P t sh th) (step_thread P t sv th)
  unfolding step_thread
  step_alike sh sv (Ended end) d k = refl
  step_alike sh sv (Going [] []) d k = refl
  step_alike sh sv (Going [] (l ∷ ls)) d k =
      initialization_alike sh sv d l.initialization l.under ls k.1.0 k.1.1 k.1.2 l.initialization.pending k.1.1
  step_alike sh sv (Going (f ∷ fs) ls) d k =
      instructed_alike sh sv (f ∷ fs) ls _ _ d k.0 k.1
      (alike kept P every t (maker_of t ls) (P.row f) sh sv d
      (lawful.row kept every f k.0.0 (λ c is. refl)))
