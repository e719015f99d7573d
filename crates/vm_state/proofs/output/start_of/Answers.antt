use Rattle.std.proofs.Common.{◌≡◌, ◌<◌, ◌-◌, suc, sym, ap, ◌∙◌, length, arith}
use Rattle.vm_state.specs.steps.Output.{start_of}
use Rattle.vm_state.proofs.OutputLemmas.{start_after}
use Rattle.vm_state.proofs.output.start_of.Goals as goal

pub returns-else-number-eq0 : goal.returns-else-number-eq0
returns-else-number-eq0 c =
    let ends = c.args.ends.now in
    let before = c.args.number - 1 in
    let next : c.args.number ≡ suc before = omega (arith, c.if-number-eq0.false) in
    let inside : before < length ends = omega (arith, c.requires, next) in
    sym (ap (start_of 0 ends) next ∙ start_after 0 ends before 0 inside)
