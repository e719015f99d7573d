-- The text of a report.
use Rattle.std.specs.Prelude.{ℕ, ◌+◌, List, [], ◌∷◌, ◌++◌, Option, Some, None, codes, decimal}
use Rattle.classfile.specs.Printing.{printed_units, units_of}
use Rattle.loading.specs.Families.{Family, name_in}
use Rattle.initializer_analysis.specs.declared.verdict.Reason.{Reason}
use Rattle.initializer_analysis.specs.declared.verdict.Reason.TheVariants.{DependsOn}
use Rattle.initializer_analysis.specs.declared.verdict.Verdict.{Verdict}
use Rattle.initializer_analysis.specs.declared.verdict.Verdict.TheVariants.{Wave, Refused}
use Rattle.initializer_analysis.specs.Words.{reason_word}
use Rattle.region_shape.specs.Regions.{environment_of}
use Rattle.object_graph.specs.Images.{ImageTables, object_count}

abbrev pub printed_name : Option (List ℕ) → List ℕ
printed_name None = []
printed_name (Some name) = printed_units (units_of name)

-- the name of the class of a number, for a reader
abbrev pub class_text : Family → ℕ → List ℕ
class_text family c = printed_name (name_in family c)

abbrev pub reason_text : Family → Reason → List ℕ
reason_text family (DependsOn e) = reason_word (DependsOn e) ++ (codes " " ++ class_text family e)
reason_text family reason = reason_word reason

-- its wave and how many objects its region has, or the reason for which it is initialized at run time
abbrev pub verdict_text : ImageTables → ℕ → Verdict → List ℕ
verdict_text I c (Wave n) =
    codes "build " ++ (decimal n ++ (codes " " ++ decimal (object_count (environment_of I.regions c))))
verdict_text I c (Refused reason) = codes "run " ++ reason_text I.program.family reason

abbrev pub line_text : ImageTables → ℕ → Verdict → List ℕ
line_text I c verdict = class_text I.program.family c ++ (codes " " ++ (verdict_text I c verdict ++ codes "\n"))

-- the lines of the classes from this number on
abbrev pub lines_from : ImageTables → ℕ → List Verdict → List ℕ
lines_from I c [] = []
lines_from I c (verdict ∷ verdicts) = line_text I c verdict ++ lines_from I (c + 1) verdicts

-- a line for each class, in the order of the names
abbrev pub report_text : ImageTables → List Verdict → List ℕ
report_text I verdicts = lines_from I 0 verdicts
