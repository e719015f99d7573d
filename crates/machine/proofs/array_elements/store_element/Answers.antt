use Rattle.std.proofs.Common.{◌≡◌, Err, ap, ◌∙◌, rules}
use Rattle.vm_state.specs.Operands.{rest}
use Rattle.vm_state.specs.declared.frame.Frame.{Frame}
use Rattle.semantics.specs.Moves.{advanced, with_operands}
use Rattle.machine.specs.Accesses.{unless_refused}
use Rattle.machine.specs.Arrays.{store_element}
use Rattle.machine.specs.RowParts.{goes_on}
use Rattle.machine.specs.steps.ArrayAccesses.{changing}
use Rattle.machine.proofs.array_elements.store_element.Goals as goal

pub returns-in-Err-clause-gives : goal.returns-in-Err-clause-gives
returns-in-Err-clause-gives g c =
    let f = c.args.frame.now in
    λ p. c.end_early.ensures.gives p (store_element c.args.program.now c.args.kind f) f
    (c.in-Err.ensures p (changing f))

pub returns-in_err-change-clause-gives : goal.returns-in_err-change-clause-gives
returns-in_err-change-clause-gives g c =
    let f = c.args.frame.now in
    let stop = c.in_err-change.field-0.0 in
    let same : c.from_residual.result ≡ Err stop = search rules in
    λ p. rw same (ap (unless_refused stop) (c.in-Ok.ensures p (changing f))
    ∙ c.in_err-change.ensures.leads p (goes_on (advanced (with_operands f (rest (rest (rest f.operands)))))))

pub returns-clause-gives : goal.returns-clause-gives
returns-clause-gives g c =
    let f = c.args.frame.now in
    let left = advanced (with_operands f (rest (rest (rest f.operands)))) in
    let is : left ≡ c.advance.new.frame = search rules in
    λ p. c.in-Ok.ensures p (changing f) ∙ c.in_ok-change.ensures.leads p (goes_on left)
    ∙ ap (λ (h : Frame). g.S.Store.run c.args.by (g.S.Store.state c.change.new.self p) (goes_on h)) is
