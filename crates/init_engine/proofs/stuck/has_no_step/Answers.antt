use Rattle.std.proofs.Common.{◌∙◌}
use Rattle.vm_state.specs.Shares.{shared_of}
use Rattle.init_engine.proofs.RestLemmas.{level_by}
use Rattle.init_engine.proofs.stuck.has_no_step.Goals as goal

pub returns-in-None-Some : goal.returns-in-None-Some
returns-in-None-Some c =
    λ p. c.initialization_waits.ensures p
    ∙ level_by c.args.program.now (shared_of c.args.shared.now p) c.args.frames.now c.in-None-Some.levels
    c.in-None-Some.is-0 c.in-None-Some.is-1
