use Rattle.std.proofs.Common.{◌≡◌, ◌∙◌, sym, ap, refl, arith}
use Rattle.journal.proofs.LineLemmas.{no_numbers}
use Rattle.journal.proofs.line.run_of.Goals as goal

pub returns-then-thread-gt4294967295-clause-none : goal.returns-then-thread-gt4294967295-clause-none
returns-then-thread-gt4294967295-clause-none c =
    no_numbers c.args.thread.now c.args.steps.now c.in-Some.thread c.in-Some-number.steps (omega arith) (omega arith)
    c.in-Some.ensures.some c.in-Some-number.ensures.some (λ h k. omega (arith, h, c.if-thread-gt4294967295.true))

pub returns-then-steps-eq0-clause-none : goal.returns-then-steps-eq0-clause-none
returns-then-steps-eq0-clause-none c =
    no_numbers c.args.thread.now c.args.steps.now c.in-Some.thread c.in-Some-number.steps (omega arith) (omega arith)
    c.in-Some.ensures.some c.in-Some-number.ensures.some (λ h k. omega (arith, k, c.if-steps-eq0.true))
