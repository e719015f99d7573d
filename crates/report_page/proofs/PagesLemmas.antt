-- A page of its parts.
use Rattle.std.proofs.Common.{◌≡◌, ℕ, Bool, List, Option, length}
use Rattle.initializer_analysis.specs.declared.verdict.Verdict.{Verdict}
use Rattle.object_graph.specs.Images.{ImageTables}
use Rattle.explain.specs.Texts.{AreEachBelow}
use Rattle.explain.specs.declared.costs.Cost.{Cost}
use Rattle.report_page.specs.Pages.{page_text, AreNumbers, ArePictures, AreTotals, IsPageOf}
use Rattle.report_page.specs.Rows.{IsRow}
use Rattle.report_page.specs.declared.totals.Totals.{Totals}

pub page_of : (I : ImageTables) (verdicts : List Verdict) (at_run_time : List Bool) (costs : List (Option Cost))
    (dearest : List Cost) (totals : Totals) (numbers pictures rows style script text : List ℕ)
    → text ≡ page_text style numbers pictures rows script → AreTotals verdicts dearest totals
    → AreNumbers verdicts totals numbers → ArePictures I.program.family pictures
    → AreEachBelow (IsRow I verdicts at_run_time costs) (length I.program.classes) rows
    → IsPageOf I verdicts at_run_time costs dearest text
page_of I verdicts at_run_time costs dearest totals numbers pictures rows style script text is right bars drawn each =
    record {
      totals = totals;
      has_totals = right;
      numbers = numbers;
      has_numbers = bars;
      pictures = pictures;
      has_pictures = drawn;
      rows = rows;
      has_rows = each;
      style = style;
      script = script;
      is = is;
    }
