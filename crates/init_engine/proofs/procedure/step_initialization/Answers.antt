use Rattle.std.proofs.Common.{◌∙◌, sym, ap}
use Rattle.std.proofs.lemmas.Result.{IfOk-weaker}
use Rattle.vm_state.specs.Shares.{shared_of}
use Rattle.vm_state.specs.Statics.{usable}
use Rattle.init_engine.proofs.ProcedureLemmas.{fails_by_pending, fails_by_parent, none_else, levels_are}
use Rattle.init_engine.proofs.procedure.step_initialization.Goals as goal

pub returns-in-Some-pending-clause-steps : goal.returns-in-Some-pending-clause-steps
returns-in-Some-pending-clause-steps c =
    let old = c.args.frames.now in
    let levels = c.in-Some.levels in
    IfOk-weaker c.step_fail.result _ _
    (λ r fails. λ p. fails_by_pending c.args.program.now (shared_of c.args.shared.now p) old levels
    c.in-Some-pending.exception _ c.requires.segment c.in-Some.is c.in-Some-pending.is
    (fails levels.highest levels.outer p (levels_are old levels c.in-Some.is)))
    c.step_fail.ensures.fails

pub returns-in-Broken-clause-steps : goal.returns-in-Broken-clause-steps
returns-in-Broken-clause-steps c =
    let old = c.args.frames.now in
    let levels = c.in-Some.levels in
    IfOk-weaker c.step_fail-in-Broken.result _ _
    (λ r fails. λ p. fails_by_parent c.args.program.now (shared_of c.args.shared.now p) old levels
    c.in-Some-first.parent _ c.requires.segment c.in-Some.is (none_else _ c.in_default-pending.not-Some)
    (sym c.first.ensures ∙ c.in-Some-first.is)
    (ap (usable old.thread) (sym (c.state.ensures p)) ∙ (sym c.usability.ensures ∙ c.in-Broken.is))
    (fails levels.highest levels.outer p (levels_are old levels c.in-Some.is)))
    c.step_fail-in-Broken.ensures.fails
