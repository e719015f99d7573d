use Rattle.report_page.proofs.pages.pictures_text.Goals as goal

pub returns : goal.returns
returns c = record {
  left = c.in_ok-below.below;
  built = c.in_ok-uses.uses;
  is = rw (
    c.as_str.ensures.value,
    c.as_str-2.ensures.value,
    c.in_ok-left.ensures,
    c.in_ok-built.ensures,
    c.family-family.ensures,
    c.program-program.ensures,
  ) at c.in_ok-text.ensures;
}
