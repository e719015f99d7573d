use Rattle.report_page.proofs.pages.numbers_text.Goals as goal

pub returns : goal.returns
returns c = record {
  waves = c.in_ok-waves.waves;
  has_waves = c.in_ok-waves.ensures;
  reasons = c.in_ok-reasons.reasons;
  has_reasons = c.in_ok-reasons.ensures;
  is = rw (
    c.as_str.ensures.value,
    c.as_str-2.ensures.value,
    c.as_str-3.ensures.value,
    c.in_ok-totals.ensures,
    c.in_ok-built.ensures,
    c.in_ok-left.ensures,
  ) at c.in_ok-text.ensures;
}
