-- The toy machine is lawful, where its code is sound.
use Rattle.std.proofs.Common.{◌≡◌, ℕ, List, [], ◌∷◌, Option, Some, None, option_map, option_and_then, sym, subst, refl}
use Rattle.std.proofs.Common.{◌∙◌}
use Rattle.std.specs.List.{AllByRecursion}
use Rattle.vm_state.specs.declared.value.Value.{Value}
use Rattle.vm_state.specs.declared.value.Name.{Name}
use Rattle.built_in.specs.declared.class_id.ClassId.{ClassId}
use Rattle.vm_state.specs.declared.ends.FaultKind.TheVariants.{Fault}
use Rattle.vm_state.specs.declared.frame.Frame.{Frame}
use Rattle.vm_state.specs.declared.object.Object.{Object}
use Rattle.vm_state.specs.SharedState.{Pool, pool_of}
use Rattle.vm_state.specs.Values.{name_of}
use Rattle.semantics.specs.Rows.{Row, Named}
use Rattle.semantics.specs.Quiet.{fixed_of, fixed_at}
use Rattle.semantics.specs.Lawful.{Names, KnowsName, KnowsAll, KnowsFrame, HoldsNoName, IsPlain, LeavesNamed, IsLawful}
use Rattle.semantics.proofs.ToyMachine.{Code, method_frame, initialized_by, needing, fails_by, toy_row, toy}
use Rattle.semantics.proofs.ToyParts.{Admits, needing_holds, choice_holds}
use Rattle.semantics.proofs.ToyRows.{toy_row_keeps, fails_by_keeps}

-- ---- what the code owes

abbrev pub IsNoObject : Value → Type 0
IsNoObject v = name_of v ≡ None

pub record IsSound (p : Code) : Type 0 where
  -- a new object holds no objects
  pub slots : (c : ℕ) → AllByRecursion IsNoObject (p.slots c)
  -- statics begin as zero, null or a constant
  pub statics : (c : ℕ) → AllByRecursion HoldsNoName (p.statics c)
  -- the class initialization method of a class is that of no other
  pub initializers : (c d m : ℕ) → p.initializer c ≡ Some m → p.initialized m ≡ Some d → d ≡ c

-- ---- lemmas

no_names : (known : Names) (vs : List Value) → AllByRecursion IsNoObject vs → KnowsAll known vs
no_names known [] h = tt
no_names known (v ∷ vs) h = (subst (KnowsName known) (sym h.0) tt, no_names known vs h.1)

module _ (p : Code) where
  failing_plain : (x : Name) (o : Option ClassId) → IsPlain (needing Fault o (fails_by p x))
  failing_plain x o =
      needing_holds admits Fault o (fails_by p x)
      (λ class e. choice_holds admits (p.is_error class) _ _ (λ e'. tt) (λ y. tt))
    where
      admits : Admits IsPlain
      admits = record { halting = λ kind. tt; raising = λ class x. tt }

  frame_knows : (known : Names) (o : Option ℕ) (f : Frame) → option_map (method_frame p []) o ≡ Some f
      → KnowsFrame known f
  frame_knows known None f e = cc
  frame_knows known (Some m) f e = let same : method_frame p [] m ≡ f = cc in subst (KnowsFrame known) same (tt, tt)

  frame_owner : IsSound p → (c d : ℕ) (f : Frame) (o : Option ℕ) → p.initializer c ≡ o →
      option_map (method_frame p []) o ≡ Some f → initialized_by p f.activity ≡ Some d → d ≡ c
  frame_owner sound c d f None is e h = cc
  frame_owner sound c d f (Some m) is e h =
      let same : method_frame p [] m ≡ f = cc in
      sound.initializers c d m is (subst (λ (g : Frame). initialized_by p g.activity ≡ Some d) (sym same) h)

  -- the machine has no enums
  pub none_named : (q : Pool) (n : ℕ) → fixed_at (toy p) Named q n ≡ None
  none_named q n = by_object (q.at n)
    where
      by_object : (o : Option Object) → option_and_then (fixed_of (toy p) Named) o ≡ None
      by_object None = refl
      by_object (Some o) = refl

  all_named : (row : Row) → LeavesNamed (toy p) row
  all_named row t maker sh outcome new led m other n vs is =
      (let clash : None ≡ Some vs = sym (none_named (pool_of sh m) n) ∙ is in cc)

-- ---- the laws

pub toy_is_lawful : (p : Code) → IsSound p → IsLawful (toy p)
toy_is_lawful p sound = record {
  row = λ known own f h ho. toy_row_keeps p known own (λ c. no_names known (p.slots c) (sound.slots c)) f h ho;
  failing = λ known own c x hx. (hx, λ o. fails_by_keeps p known own x o hx);
  orphaned = λ known own c. (tt, λ x hx. (hx, tt));
  row_named = λ f. all_named p (toy_row p f);
  failing_named = λ c x. all_named p ((toy p).failing c x);
  orphaned_named = λ c. all_named p ((toy p).orphaned c);
  plain_failing = λ c x o. failing_plain p x o;
  plain_orphaned = λ c x. tt;
  initializer_names = λ known c f e. frame_knows p known (p.initializer c) f e;
  initializer_owner = λ c d f e h. frame_owner p sound c d f (p.initializer c) refl e h;
  start_names = λ known entry t h. ((h, tt), tt);
  start_owner = λ entry t c e. cc;
  statics = sound.statics;
}
