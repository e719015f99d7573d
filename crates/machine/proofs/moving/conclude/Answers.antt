use Rattle.std.proofs.Common.{◌∷◌, Some, refl, ap, rules}
use Rattle.vm_state.specs.declared.frame.Activity.{Activity}
use Rattle.vm_state.specs.Operands.{dropped}
use Rattle.semantics.specs.Rows.{Becomes, Calls}
use Rattle.semantics.specs.Moves.{stays}
use Rattle.machine.proofs.moving.conclude.Goals as goal

pub returns-in-Stays-clause-ok : goal.returns-in-Stays-clause-ok
returns-in-Stays-clause-ok c =
    let s = c.args.segment.now in
    λ f same kept. (
      stays s.innermost,
      rw c.in-Stays.is refl,
      ap (λ (a : Activity). Some (record s.innermost { activity = a } ∷ s.callers)) same,
    )

pub returns-in-Becomes-clause-ok : goal.returns-in-Becomes-clause-ok
returns-in-Becomes-clause-ok c = λ f same kept. (Becomes c.in-Becomes.frame, rw c.in-Becomes.is refl, refl)

pub returns-in_ok-call-in-Calls-clause-ok : goal.returns-in_ok-call-in-Calls-clause-ok
returns-in_ok-call-in-Calls-clause-ok c =
    let s = c.args.segment.now in
    let n = c.in-Calls.arguments in
    λ f same kept.
    (Calls (dropped n s.innermost.operands) c.in-Calls.callee, rw c.in-Calls.is refl, search rules)
