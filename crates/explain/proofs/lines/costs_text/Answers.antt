use Rattle.explain.proofs.lines.costs_text.Goals as goal

pub returns : goal.returns
returns c = record {
  costs = c.in_ok-costs.costs.items;
  are = c.in_ok-costs.ensures;
  dearest = c.in_ok-dearest.dearest.items;
  sorted = rw c.as_slice.ensures.value at c.in_ok-dearest.ensures;
  is = rw (c.as_slice-2.ensures.value, c.family.ensures, c.program.ensures) at c.in_ok-text.ensures;
}
