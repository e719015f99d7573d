use Rattle.std.proofs.Common.{sym, ◌∙◌}
use Rattle.machine.specs.Linked.{program_of}
use Rattle.init_engine.proofs.RestLemmas.{stands_still, moves}
use Rattle.init_engine.proofs.stuck.thread_rest.Goals as goal

pub returns-then-has_no_step : goal.returns-then-has_no_step
returns-then-has_no_step c =
    λ t p number. stands_still (program_of c.args.program.now) c.args.thread.now c.in-Going.frames t c.args.shared.now p
    c.in-Going.is number (sym (c.has_no_step.ensures p) ∙ c.if-has_no_step.true)

pub returns-else-has_no_step : goal.returns-else-has_no_step
returns-else-has_no_step c =
    λ t p number. moves (program_of c.args.program.now) c.args.thread.now c.in-Going.frames t c.args.shared.now p
    c.in-Going.is number (sym (c.has_no_step.ensures p) ∙ c.if-has_no_step.false)
