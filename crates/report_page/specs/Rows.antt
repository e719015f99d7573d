-- The rows of the table of classes.
use Rattle.std.specs.Prelude.{◌≡◌, ℕ, Bool, List, [], ◌++◌, Option, Some, None, slice_get, slice_index_or, codes}
use Rattle.std.specs.Prelude.{decimal}
use Rattle.loading.specs.Families.{Family}
use Rattle.initializer_analysis.specs.declared.verdict.Verdict.{Verdict}
use Rattle.initializer_analysis.specs.declared.verdict.Verdict.TheVariants.{Wave, Refused}
use Rattle.object_graph.specs.Images.{ImageTables}
use Rattle.report.specs.Texts.{reason_text}
use Rattle.explain.specs.Costs.{cost_text}
use Rattle.explain.specs.Texts.{IsTextAmongAll}
use Rattle.explain.specs.declared.costs.Cost.{Cost}
use Rattle.report_page.specs.Escapes.{escaped}
use Rattle.report_page.specs.Pictures.{name_text}

-- when a class is initialized, in which wave, and for which reason it is left
abbrev pub verdict_cells : Family → Verdict → List ℕ
verdict_cells family (Wave n) = codes "<td>build time<td>" ++ (decimal n ++ codes "<td>")
verdict_cells family (Refused reason) = codes "<td>run time<td><td>" ++ escaped (reason_text family reason)

-- what it costs and leaves
abbrev pub cost_cells : Option Cost → List ℕ
cost_cells None = codes "<td><td><td><td>"
cost_cells (Some found) = codes "<td>" ++ (decimal found.cost
    ++ (codes "<td>" ++ (decimal found.made
    ++ (codes "<td>" ++ (decimal found.kept
    ++ (codes "<td>" ++ decimal found.bytes))))))

abbrev pub cost_line : Family → Option Cost → List ℕ
cost_line family None = []
cost_line family (Some found) = cost_text family found

-- the name of a class, what is explained of it, its verdict and its cost
abbrev pub row_text : Family → ℕ → Verdict → Option Cost → List ℕ → List ℕ
row_text family c verdict found reasons = codes "<tr><td><b>" ++ (name_text family c
    ++ (codes "</b><pre>" ++ (escaped (reasons ++ cost_line family found)
    ++ (codes "</pre>" ++ (verdict_cells family verdict ++ (cost_cells found ++ codes "</tr>\n"))))))

-- the row of a class, by the last verdicts and by what the accepted classes cost
pub record IsRow (I : ImageTables) (verdicts : List Verdict) (at_run_time : List Bool) (costs : List (Option Cost))
    (c : ℕ) (text : List ℕ) : Type 0 where
  pub verdict : Verdict
  pub stands : slice_get verdicts c ≡ Some verdict
  pub reasons : List ℕ
  pub told : IsTextAmongAll I verdicts at_run_time c reasons
  pub is : text ≡ row_text I.program.family c verdict (slice_index_or costs c None) reasons
