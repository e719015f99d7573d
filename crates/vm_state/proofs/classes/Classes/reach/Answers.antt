use Rattle.std.proofs.Common.{length, ap, ◌∙◌, refl, arith}
use Rattle.vm_state.specs.Statics.{states_of, fields_of}
use Rattle.vm_state.proofs.StaticLemmas.{states_of-more, fields_of-more}
use Rattle.vm_state.proofs.classes.Classes.reach.Goals as goal

pub loop-alloc-init : goal.loop-alloc-init
loop-alloc-init c = (ap states_of c.self.view_is, ap fields_of c.self.view_is, λ h. c.self.view_is)

pub loop-alloc-preserved : goal.loop-alloc-preserved
loop-alloc-preserved c =
    let kept = c.loop-alloc.self-inside.areas.items in
    let more = rw c.new.ensures at c.in_ok-push.ensures.items in (
      ap states_of more ∙ (states_of-more kept ∙ c.loop-alloc.invariant.0),
      ap fields_of more ∙ (fields_of-more kept ∙ c.loop-alloc.invariant.1),
      λ h. absurd (let same = ap length (c.loop-alloc.invariant.2 h) in omega arith),
    )

pub returns-in_err-push-clause-placed : goal.returns-in_err-push-clause-placed
returns-in_err-push-clause-placed c =
    λ h. absurd (let same = ap length (c.loop-alloc.invariant.2 h) in omega arith)

pub returns-clause-placed : goal.returns-clause-placed
returns-clause-placed c = λ h. (refl, c.loop-alloc.invariant.2 h)
