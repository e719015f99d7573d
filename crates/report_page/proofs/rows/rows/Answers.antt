use Rattle.std.proofs.Common.{◌∙◌, ℕ, List, ◌++◌, ap, string_bytes}
use Rattle.explain.proofs.TextsLemmas.{each_grown}
use Rattle.report_page.specs.Rows.{IsRow}
use Rattle.report_page.proofs.rows.rows.Goals as goal

pub loop-class-preserved : goal.loop-class-preserved
loop-class-preserved c = record {
  known = c.class_row.ensures.known;
  each = each_grown (IsRow c.args.image.now c.args.verdicts.now c.args.forced.now c.args.costs.now) c.loop-class.class
      (string_bytes c.loop-class.rows) (string_bytes c.in_ok-row.row) (string_bytes c.push_str.new.self)
      c.loop-class.invariant.each c.in_ok-row.ensures.row
      (c.in_ok-push_str.ensures.bytes
      ∙ ap (λ (t : List ℕ). string_bytes c.loop-class.rows ++ t) c.as_str.ensures.value);
}
