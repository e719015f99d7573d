use Rattle.std.proofs.Common.{rules, ◌∙◌}
use Rattle.vm_state.specs.Shares.{shared_of}
use Rattle.init_engine.proofs.FrameSteps.{needs_steps, waits_steps}
use Rattle.init_engine.proofs.procedure.step_frame.Goals as goal

pub returns-in_ok-begin-in-Needs-clause-steps : goal.returns-in_ok-begin-in-Needs-clause-steps
returns-in_ok-begin-in-Needs-clause-steps c =
    λ p. needs_steps c.args.program.now c.args.frames.now (shared_of c.args.shared.now p) c.in-Needs.class c.requires
    (rw c.in-Needs.is at (c.in_ok-effect.ensures.gives p)) ∙ (search rules)

pub returns-in-Wait-clause-steps : goal.returns-in-Wait-clause-steps
returns-in-Wait-clause-steps c =
    λ p. waits_steps c.args.program.now c.args.frames.now (shared_of c.args.shared.now p) c.requires
    (rw c.in-Wait.is at (c.in_ok-effect.ensures.gives p))
