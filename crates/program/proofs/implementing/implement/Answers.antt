use borrow.Author.Count.{below_more}
use Rattle.std.proofs.Common.{◌≡◌, ℕ, ◌<◌, ◌+◌, List, length, get_or, set, ap, sym, subst, ◌∙◌, arith}
use Rattle.std.proofs.lemmas.List.{get_or-set_same, get_or-set_other, get_or_default, length-set}
use Rattle.program.specs.declared.class.Class.{Class}
use Rattle.program.specs.steps.Frames.{CanImplement, IsTried}
use Rattle.program.proofs.FramesLemmas.{place_of}
use Rattle.program.proofs.implementing.implement.Goals as goal

pub implement_one-requires-clause-ready : goal.implement_one-requires-clause-ready
implement_one-requires-clause-ready c =
    let i = c.loop-number.number in
    let d = c.index_mut.result.now in
    let within : i < length c.args.classes.now.items =
    omega (arith, c.requires.many, ap length c.classes-number-end.ensures.value) in
    let is : get_or c.args.classes.now.items i d ≡ d =
    sym (c.index_mut.ensures.value ∙ c.loop-number.invariant.later i d (omega arith)) in
    let P : Class → Type 0 = λ z. CanImplement c.args.family.now i z in
    subst P is (c.requires.ready i (get_or c.args.classes.now.items i d) (place_of c.args.classes.now.items i d within))

pub loop-number-preserved : goal.loop-number-preserved
loop-number-preserved c =
    let k = c.loop-number.number in
    let xs = c.args.classes.now.items in
    let ys = c.loop-number.classes.items in
    let y = c.implement_one.new.class in
    let within : k < length ys =
    omega (arith, c.requires.many, ap length c.classes-number-end.ensures.value, c.loop-number.invariant.many) in
    record {
      many = length-set ys k y ∙ c.loop-number.invariant.many;
      later = λ j d h. get_or-set_other ys k j y d (λ e. omega arith) ∙ c.loop-number.invariant.later j d (omega arith);
      tried = λ j d h.
          let tried : ℕ → Class → Class → Type 0 = λ i x z. IsTried c.args.family.now i x z in
          let d-is : c.index_mut.result.now ≡ get_or xs k d =
          c.index_mut.ensures.value ∙ get_or_default ys k _ d within ∙ c.loop-number.invariant.later k d (omega arith) in
          below_more (λ (i : ℕ). tried i (get_or xs i d) (get_or (set ys k y) i d)) k
          (λ i u. subst (tried i (get_or xs i d)) (sym (get_or-set_other ys k i y d (λ e. omega arith)))
          (c.loop-number.invariant.tried i d u))
          (subst (tried k (get_or xs k d)) (sym (get_or-set_same ys k y d within))
          (subst (λ (z : Class). tried k z y) d-is c.implement_one.ensures))
          j h;
    }
