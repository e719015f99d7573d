use Rattle.std.proofs.lemmas.Result.{IfOk-weaker}
use Rattle.initializer_analysis.specs.Verdicts.{AreVerdicts}
use Rattle.initializer_analysis.specs.steps.Judging.{AreJudgedBy}
use Rattle.initializer_analysis.proofs.JudgingLemmas.{are_verdicts}
use Rattle.initializer_analysis.proofs.judging.judge_over.Goals as goal

pub returns-in-Ok : goal.returns-in-Ok
returns-in-Ok c =
    let P = c.args.program.now in
    let uses = c.args.graphs.uses.now in
    let graph = c.args.graphs.dependences.now in
    IfOk-weaker c.judge_known.result (AreJudgedBy P uses graph c.as_slice.result.now)
    (AreVerdicts P c.args.forced.now)
    (λ verdicts (refused, are, judged).
    let (first, heights, firsts, waves, by) = judged in
    let (flags, classes, high) = waves in
    are_verdicts P uses graph c.requires.dependences.uses c.requires.dependences.graph c.args.forced.now
    c.as_slice.result.now refused first heights flags verdicts (rw c.as_slice.ensures.value c.in-Ok.ensures) are firsts
    classes high by)
    c.judge_known.ensures
