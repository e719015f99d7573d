use Rattle.initializer_analysis.proofs.judging.judge_known.Goals as goal

pub returns : goal.returns
returns c =
    let judged = rw c.as_slice.ensures.value at c.in_ok-verdicts.ensures in
    (c.in_ok-refused.refused.items, c.in_ok-refused.ensures, judged)
