use Rattle.std.proofs.Common.{sym, ◌∙◌}
use Rattle.vm_state.specs.Shares.{shared_of}
use Rattle.machine.proofs.FailuresLemmas.{wrapped}
use Rattle.machine.proofs.failing.raised_by.Goals as goal

pub returns-in-Ok-clause-row : goal.returns-in-Ok-clause-row
returns-in-Ok-clause-row c =
    λ t p. wrapped c.args.program.now t c.args.maker (shared_of c.args.shared.now p) c.args.exception c.in-Some.class
    (sym (c.class_of.ensures p) ∙ c.in-Some.is) (sym c.is_below.ensures ∙ c.if-is_below.false)
    ∙ c.in-Ok.ensures.row t p
