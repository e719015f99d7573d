use Rattle.std.proofs.Common.{◌∙◌, ℕ, length, ap, subst, string_bytes}
use Rattle.program.specs.Tables.{Tables}
use Rattle.explain.specs.Texts.{AreEachBelow}
use Rattle.report_page.specs.Rows.{IsRow}
use Rattle.report_page.proofs.PagesLemmas.{page_of}
use Rattle.report_page.proofs.pages.page_by.Goals as goal

pub returns : goal.returns
returns c =
    let rows = string_bytes c.in_ok-rows.rows in
    page_of c.args.image.now c.args.verdicts.now c.args.forced.now c.args.costs.now c.args.dearest.now
    c.totals_of.result (string_bytes c.in_ok-numbers.numbers) (string_bytes c.in_ok-pictures.pictures) rows _ _
    (string_bytes c.in_ok-text.text)
    (rw (c.as_str.ensures.value, c.as_str-2.ensures.value, c.as_str-3.ensures.value) at c.in_ok-text.ensures)
    c.totals_of.ensures c.in_ok-numbers.ensures c.in_ok-pictures.ensures
    (subst
    (λ (n : ℕ). AreEachBelow (IsRow c.args.image.now c.args.verdicts.now c.args.forced.now c.args.costs.now) n rows)
    (c.given_count-count.ensures.value ∙ ap (λ (P : Tables). length P.classes) c.program.ensures)
    c.in_ok-rows.ensures)
