-- What holds of frames before a move, and of what it puts there, holds of the frames after it.
use Rattle.std.proofs.Common.{◌≡◌, ℕ, Bool, true, inl, inr, List, [], ◌∷◌, Option, Some, None, nat_le, subst}
use Rattle.std.proofs.Common.{option_map, refl, sym, ap, ◌∙◌}
use Rattle.std.specs.List.{AllByRecursion}
use Rattle.vm_state.specs.declared.value.Value.{Value}
use Rattle.vm_state.specs.declared.value.Name.{Name}
use Rattle.vm_state.specs.declared.value.Maker.{Maker}
use Rattle.vm_state.specs.declared.value.Maker.TheVariants.{Class, Thread}
use Rattle.built_in.specs.declared.class_id.ClassId.{ClassId}
use Rattle.vm_state.specs.declared.frame.Frame.{Frame}
use Rattle.vm_state.specs.Values.{places, value_by, value_of}
use Rattle.vm_state.specs.Operands.{OperandStack, pushed}
use Rattle.semantics.specs.Rows.{Move, Stays, Becomes, Calls, Returns, Outcome, Next, Raise, Halt}
use Rattle.semantics.specs.Moves.{advanced, with_operands, received, returned, moved, Left, Stand, Throw, Stop, stand}
use Rattle.semantics.specs.Moves.{left_in}
use Rattle.semantics.specs.Moves.{emptied, handled, caught, unwound}
use Rattle.semantics.specs.Settling.{onward, entered}
use Rattle.semantics.specs.Programs.{Program}
use Rattle.semantics.specs.Lawful.{Names, Knows, KnowsAll, KnowsSome, KnowsFrame, KnowsMove, KnowsOutcome}
use Rattle.semantics.specs.helpers.Lawful.{KnowsFrames}
use Rattle.semantics.specs.Lawful.{OwnsFrame, OwnsOutcome, HoldsOfSome, HoldsOfFrame, HoldsOfMove}
use Rattle.semantics.specs.helpers.Lawful.{Owns}
use Rattle.vm_state.proofs.ListLemmas.{tested}
use Rattle.semantics.proofs.TestsLemmas.{from_some}

pub onward_moved : (move : Move) (f g : Frame) (fs : List Frame) → onward move f ≡ Some g
    → moved move f fs ≡ Some (g ∷ fs)
onward_moved (Stays place locals operands) f g fs e = rw (from_some e) refl
onward_moved (Becomes h) f g fs e = rw (from_some e) refl
onward_moved (Calls operands h) f g fs e = cc
onward_moved (Returns v) f g fs e = cc

-- where a frame goes on, it is the one on top
pub onward_entered : (move : Move) (f g : Frame) → onward move f ≡ Some g → entered move f ≡ Some g
onward_entered (Stays place locals operands) f g e = e
onward_entered (Becomes h) f g e = e
onward_entered (Calls operands h) f g e = cc
onward_entered (Returns v) f g e = cc

-- the same move, as one of all the frames
pub moves_as : {move other : Move} (f : Frame) (fs : List Frame) {o : Option (List Frame)} → move ≡ other
    → moved other f fs ≡ o → moved move f fs ≡ o
moves_as f fs is leads = ap (λ (x : Move). moved x f fs) is ∙ leads

-- where a move of the innermost frame leads
pub data Way (move : Move) (f : Frame) (fs gs : List Frame) : Type 0 where
  -- back to the callers
  Back : (v : Option Value) → move ≡ Returns v → returned v fs ≡ Some gs → Way move f fs gs
  -- on in a frame
  On : (g : Frame) → onward move f ≡ Some g → gs ≡ g ∷ fs → Way move f fs gs
  -- down into a call
  Down : (operands : OperandStack) (callee : Frame) → move ≡ Calls operands callee
      → gs ≡ callee ∷ with_operands f operands ∷ fs →
      Way move f fs gs

pub way_of : (move : Move) (f : Frame) (fs gs : List Frame) → moved move f fs ≡ Some gs → Way move f fs gs
way_of (Stays place locals operands) f fs gs e = On _ refl (sym (from_some e))
way_of (Becomes g) f fs gs e = On g refl (sym (from_some e))
way_of (Calls operands g) f fs gs e = Down operands g refl (sym (from_some e))
way_of (Returns v) f fs gs e = Back v refl e

-- a property of frames that a caller keeps which gets a value
pub returned_all : (Q : Frame → Type 0) (v : Option Value)
    → ((g back : Frame) → Q g → received v g ≡ Some back → Q back) →
    (fs gs : List Frame) → AllByRecursion Q fs → returned v fs ≡ Some gs → AllByRecursion Q gs
returned_all Q v keeps [] gs h e = subst (AllByRecursion Q) (from_some e) tt
returned_all Q v keeps (g ∷ fs) gs h e = by_caller (received v g) refl e
  where
    by_caller : (o : Option Frame) → received v g ≡ o → option_map (λ back. back ∷ fs) o ≡ Some gs → AllByRecursion Q gs
    by_caller None is e = cc
    by_caller (Some back) is e = subst (AllByRecursion Q) (from_some e) (keeps g back h.0 is, h.1)

-- ---- values

module _ (Q : Value → Type 0) where
  pub pushed_has : (v : Value) (s more : OperandStack) → Q v → AllByRecursion Q s.values → pushed v s ≡ Some more
      → AllByRecursion Q more.values
  unfolding pushed
  pushed_has v s more kv k e = elim (tested (nat_le (places v) s.free)) [
    | inl room ↦ subst (λ (r : OperandStack). AllByRecursion Q r.values) (from_some (rw room at e)) (kv, k)
    | inr full ↦ (let clash : None ≡ Some more = rw full at e in cc)
  ]

  pub received_has : (v : Option Value) → HoldsOfSome Q v → (g back : Frame) → HoldsOfFrame Q g
      → received v g ≡ Some back → HoldsOfFrame Q back
  received_has None kv g back k e = subst (HoldsOfFrame Q) (from_some e) k
  received_has (Some v) kv g back k e = by_room (pushed v g.operands) refl e
    where
      by_room : (o : Option OperandStack) → pushed v g.operands ≡ o →
          option_map (λ s. advanced (with_operands g s)) o ≡ Some back → HoldsOfFrame Q back
      by_room None is e = cc
      by_room (Some s) is e = subst (HoldsOfFrame Q) (from_some e) (pushed_has v g.operands s kv k.0 is, k.1)

  abbrev HoldsOfAll : List Frame → Type 0
  HoldsOfAll fs = AllByRecursion (HoldsOfFrame Q) fs

  pub moved_has : (move : Move) (f : Frame) (fs gs : List Frame) → HoldsOfMove Q move
      → AllByRecursion (HoldsOfFrame Q) (f ∷ fs) → moved move f fs ≡ Some gs → AllByRecursion (HoldsOfFrame Q) gs
  moved_has (Stays place locals operands) f fs gs km k e = subst HoldsOfAll (from_some e) (km, k.1)
  moved_has (Becomes g) f fs gs km k e = subst HoldsOfAll (from_some e) (km, k.1)
  moved_has (Calls operands g) f fs gs km k e = subst HoldsOfAll (from_some e) (km.1, ((km.0, k.0.1), k.1))
  moved_has (Returns v) f fs gs km k e = returned_all (HoldsOfFrame Q) v (received_has v km) fs gs k.1 e

-- ---- names

module _ (known : Names) where
  pub pushed_known : (v : Value) (s more : OperandStack) → Knows known v → KnowsAll known s.values
      → pushed v s ≡ Some more →
      KnowsAll known more.values
  pushed_known v s more kv k e = pushed_has (Knows known) v s more kv k e

  -- the value that refers to an object
  pub name_known : (x : Name) → known x ≡ true → Knows known (value_of x)
  name_known x h = by_maker x.maker x.number h
    where
      by_maker : (m : Maker) (n : ℕ) → known (record { maker = m; number = n }) ≡ true → Knows known (value_by m n)
      by_maker (Class c) n h = h
      by_maker (Thread t) n h = h

  pub received_known : (v : Option Value) → KnowsSome known v → (g back : Frame) → KnowsFrame known g
      → received v g ≡ Some back →
      KnowsFrame known back
  received_known v kv g back k e = received_has (Knows known) v kv g back k e

  pub moved_known : (move : Move) (f : Frame) (fs gs : List Frame) → KnowsMove known move → KnowsFrames known (f ∷ fs) →
      moved move f fs ≡ Some gs → KnowsFrames known gs
  moved_known move f fs gs km k e = moved_has (Knows known) move f fs gs km k e

  abbrev pub KnowsLeft : Left → Type 0
  KnowsLeft (Stand frames) = KnowsFrames known frames
  KnowsLeft (Throw x class) = known x ≡ true
  KnowsLeft (Stop kind) = Unit {0}

  pub left_known : (o : Outcome) (fs : List Frame) → KnowsOutcome known o → KnowsFrames known fs
      → KnowsLeft (left_in o fs)
  left_known (Next move) [] ko k = tt
  left_known (Next move) (f ∷ fs) ko k = by_room (moved move f fs) refl
    where
      by_room : (o : Option (List Frame)) → moved move f fs ≡ o → KnowsLeft (stand o)
      by_room None is = tt
      by_room (Some gs) is = moved_known move f fs gs ko k is
  left_known (Raise x class) fs ko k = ko
  left_known (Halt kind) fs ko k = tt

  handled_known : (place : ℕ) (x : Name) (f : Frame) (fs : List Frame) → known x ≡ true → KnowsFrames known (f ∷ fs) →
      KnowsLeft (stand (option_map (λ g. g ∷ fs) (handled place x f)))
  handled_known place x f fs kx k = by_room (pushed (value_of x) (emptied f.operands)) refl
    where
      by_room : (o : Option OperandStack) → pushed (value_of x) (emptied f.operands) ≡ o →
          KnowsLeft (stand (option_map (λ g. g ∷ fs) (option_map (λ s. record f { place = place; operands = s }) o)))
      by_room None is = tt
      by_room (Some s) is = ((pushed_known (value_of x) (emptied f.operands) s (name_known x kx) tt is, k.0.1), k.1)

  caught_known : (o : Option ℕ) (x : Name) (f : Frame) (fs : List Frame) (outer : Left) → known x ≡ true
      → KnowsFrames known (f ∷ fs) →
      KnowsLeft outer → KnowsLeft (caught o x f fs outer)
  caught_known None x f fs outer kx k ko = ko
  caught_known (Some place) x f fs outer kx k ko = handled_known place x f fs kx k

  pub unwound_known : (P : Program) (x : Name) (class : ClassId) (fs : List Frame) → known x ≡ true
      → KnowsFrames known fs →
      KnowsLeft (unwound P x class fs)
  unwound_known P x class [] kx k = kx
  unwound_known P x class (f ∷ fs) kx k =
      caught_known (P.handler f.activity f.place class) x f fs _ kx k (unwound_known P x class fs kx k.1)

-- ---- the frames of initializers

module _ (P : Program) (own : ℕ → Bool) where
  received_owned : (v : Option Value) (g back : Frame) → OwnsFrame P own g → received v g ≡ Some back
      → OwnsFrame P own back
  received_owned None g back h e = subst (OwnsFrame P own) (from_some e) h
  received_owned (Some v) g back h e = by_room (pushed v g.operands) e
    where
      by_room : (o : Option OperandStack) → option_map (λ s. advanced (with_operands g s)) o ≡ Some back
          → OwnsFrame P own back
      by_room None e = cc
      by_room (Some s) e = subst (OwnsFrame P own) (from_some e) h

  moved_owned : (move : Move) (f : Frame) (fs gs : List Frame) → OwnsOutcome P own (Next move) → Owns P own (f ∷ fs) →
      moved move f fs ≡ Some gs → Owns P own gs
  moved_owned (Stays place locals operands) f fs gs om h e = subst (Owns P own) (from_some e) h
  moved_owned (Becomes g) f fs gs om h e = subst (Owns P own) (from_some e) (om, h.1)
  moved_owned (Calls operands g) f fs gs om h e = subst (Owns P own) (from_some e) (om, h)
  moved_owned (Returns v) f fs gs om h e = returned_all (OwnsFrame P own) v (received_owned v) fs gs h.1 e

  abbrev pub OwnsLeft : Left → Type 0
  OwnsLeft (Stand frames) = Owns P own frames
  OwnsLeft (Throw x class) = Unit {0}
  OwnsLeft (Stop kind) = Unit {0}

  pub left_owned : (o : Outcome) (fs : List Frame) → OwnsOutcome P own o → Owns P own fs → OwnsLeft (left_in o fs)
  left_owned (Next move) [] oo h = tt
  left_owned (Next move) (f ∷ fs) oo h = by_room (moved move f fs) refl
    where
      by_room : (o : Option (List Frame)) → moved move f fs ≡ o → OwnsLeft (stand o)
      by_room None is = tt
      by_room (Some gs) is = moved_owned move f fs gs oo h is
  left_owned (Raise x class) fs oo h = tt
  left_owned (Halt kind) fs oo h = tt

  caught_owned : (o : Option ℕ) (x : Name) (f : Frame) (fs : List Frame) (outer : Left) → Owns P own (f ∷ fs)
      → OwnsLeft outer →
      OwnsLeft (caught o x f fs outer)
  caught_owned None x f fs outer h ho = ho
  caught_owned (Some place) x f fs outer h ho = by_room (pushed (value_of x) (emptied f.operands))
    where
      by_room : (o : Option OperandStack) →
          OwnsLeft (stand (option_map (λ g. g ∷ fs) (option_map (λ s. record f { place = place; operands = s }) o)))
      by_room None = tt
      by_room (Some s) = h

  pub unwound_owned : (x : Name) (class : ClassId) (fs : List Frame) → Owns P own fs → OwnsLeft (unwound P x class fs)
  unwound_owned x class [] h = tt
  unwound_owned x class (f ∷ fs) h = caught_owned (P.handler f.activity f.place class) x f fs _ h
      (unwound_owned x class fs h.1)
