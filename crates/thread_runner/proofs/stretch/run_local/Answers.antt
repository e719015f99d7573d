use Rattle.std.proofs.Common.{◌+◌, inr, sym, ap, ◌∙◌, Some, arith}
use Rattle.machine.specs.Effects.{going}
use Rattle.thread_runner.specs.Local.{local_step}
use Rattle.thread_runner.proofs.LocalLemmas.{one_more}
use Rattle.thread_runner.proofs.stretch.run_local.Goals as goal

pub loop-count-preserved : goal.loop-count-preserved
loop-count-preserved g c =
    let kept = c.loop-count.invariant in record {
      steps = one_more c.args.program.now c.args.done.now c.loop-count.count (going c.args.frames.now)
          (going c.loop-count.frames) (going c.step_local.new.frames) kept.steps
          (c.in-Ok-true.ensures.yes c.in-Ok-true.field-0-test);
      thread = c.step_local.ensures.thread ∙ kept.thread;
      most = omega (arith, c.loop-count-test.true, kept.most);
    }

pub returns-in-Ok-false-clause-steps : goal.returns-in-Ok-false-clause-steps
returns-in-Ok-false-clause-steps g c =
    c.loop-count.invariant.steps ∙ ap Some (sym (c.in-Ok-false.ensures.no c.in-Ok-false.field-0-test).1)

pub returns-in-Ok-false-clause-ends : goal.returns-in-Ok-false-clause-ends
returns-in-Ok-false-clause-ends g c =
    let stood = c.in-Ok-false.ensures.no c.in-Ok-false.field-0-test in
    inr (ap (local_step c.args.program.now c.args.done.now) stood.1 ∙ stood.0)
