use Rattle.std.proofs.Common.{ap, sym, ◌∙◌}
use Rattle.vm_state.specs.Shares.{shared_of}
use Rattle.machine.specs.declared.waiting.Trigger.{Trigger}
use Rattle.machine.specs.steps.Triggers.{is_held}
use Rattle.machine.proofs.WaitingLemmas.{row_waits}
use Rattle.machine.proofs.waiting.has_to_wait.Goals as goal

pub returns : goal.returns
returns c =
    λ maker p. c.is_held.ensures p
    ∙ ap (λ (trigger : Trigger). is_held trigger c.args.thread (shared_of c.args.shared.now p)) c.trigger_of.ensures
    ∙ sym (row_waits c.args.thread maker (shared_of c.args.shared.now p) c.args.program.now c.args.frame.now)
