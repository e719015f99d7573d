use Rattle.std.proofs.Common.{◌≡◌, ℕ, ◌++◌, drop, map, refl, reverse, subst, arith}
use Rattle.std.proofs.Math.Seq.{drop-length}
use Rattle.program.specs.Programs.{zero_of}
use Rattle.program.proofs.EachSlotLemmas.{slot_next}
use Rattle.program.proofs.objects.add_zeros_of.Goals as goal

pub loop-index-init : goal.loop-index-init
loop-index-init c = rw drop-length refl

pub loop-index-preserved : goal.loop-index-preserved
loop-index-preserved c =
    slot_next (map zero_of) zero_of (λ kind kinds. refl) c.args.kinds.now c.loop-index.index _ c.zero_of.result
    c.loop-index.slots.items c.push.new.self.items (reverse c.args.slots.now.items) (omega arith) (omega arith)
    c.zero_of.ensures c.in_ok-push.ensures.items
    c.loop-index.invariant

pub returns : goal.returns
returns c =
    let none : c.loop-index.index ≡ 0 = omega arith in
    subst (λ (i : ℕ). reverse c.loop-index.slots.items
    ≡ map zero_of (drop i c.args.kinds.now) ++ reverse c.args.slots.now.items) none c.loop-index.invariant
