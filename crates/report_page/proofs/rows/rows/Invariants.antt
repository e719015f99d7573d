use Rattle.std.proofs.Common.{string_bytes}
use Rattle.explain.specs.Texts.{AreEachBelow}
use Rattle.explain.specs.steps.Known.{IsOverview}
use Rattle.report_page.specs.Rows.{IsRow}
use Rattle.report_page.proofs.rows.rows.Given as goal

abbrev pub invariant-loop-class : goal.invariant-loop-class
invariant-loop-class l = record {
  known : IsOverview l.image.program l.verdicts l.overview;
  each : AreEachBelow (IsRow l.image l.verdicts l.forced l.costs) l.class (string_bytes l.rows);
}
