use Rattle.initializer_analysis.proofs.judging.verdicts_of.Goals as goal

pub returns : goal.returns
returns c = (
  c.in_ok-first.first.items,
  c.in_ok-heights.heights.items,
  c.in_ok-first.ensures,
  c.in_ok-heights.ensures.heights,
  rw (c.given_count.ensures.value, c.as_slice.ensures.value, c.as_slice-2.ensures.value) at c.in_ok-verdicts.ensures,
)
