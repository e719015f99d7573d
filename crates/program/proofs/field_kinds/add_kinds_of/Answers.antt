use Rattle.std.proofs.Common.{◌≡◌, ℕ, ◌++◌, drop, refl, reverse, subst, arith}
use Rattle.std.proofs.Math.Seq.{drop-length}
use Rattle.program.proofs.EachSlotLemmas.{slot_next}
use Rattle.program.proofs.field_kinds.add_kinds_of.Goals as goal

pub loop-index-init : goal.loop-index-init
loop-index-init c = rw drop-length refl

pub loop-index-preserved : goal.loop-index-preserved
loop-index-preserved c =
    slot_next (λ kinds. kinds) (λ kind. kind) (λ kind kinds. refl) c.args.added.now c.loop-index.index _ _
    c.loop-index.kinds.items c.push.new.self.items (reverse c.args.kinds.now.items) (omega arith) (omega arith) refl
    c.in_ok-push.ensures.items
    c.loop-index.invariant

pub returns : goal.returns
returns c =
    let none : c.loop-index.index ≡ 0 = omega arith in
    subst (λ (i : ℕ). reverse c.loop-index.kinds.items
    ≡ drop i c.args.added.now ++ reverse c.args.kinds.now.items) none c.loop-index.invariant
