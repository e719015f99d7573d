-- Words for reasons.
use Rattle.std.specs.Prelude.{ℕ, List, codes}
use Rattle.use_graph.specs.declared.mark.Mark.{Mark}
use Rattle.use_graph.specs.declared.mark.Mark.TheVariants as marks
use Rattle.initializer_analysis.specs.declared.verdict.Reason.{Reason}
use Rattle.initializer_analysis.specs.declared.verdict.Reason.TheVariants as reasons

abbrev pub mark_word : Mark → List ℕ
mark_word marks.Prints = codes "Prints"
mark_word marks.Throws = codes "Throws"
mark_word marks.Monitors = codes "Monitors"
mark_word marks.ForeignWrite = codes "ForeignWrite"
mark_word marks.ForeignRead = codes "ForeignRead"
mark_word marks.Unsupported = codes "Unsupported"
mark_word marks.Missing = codes "Missing"

abbrev pub reason_word : Reason → List ℕ
reason_word reasons.Forced = codes "Forced"
reason_word (reasons.Marked mark) = mark_word mark
reason_word reasons.Cycle = codes "Cycle"
reason_word (reasons.DependsOn e) = codes "DependsOn"
reason_word reasons.Raised = codes "Raised"
reason_word reasons.ForeignObject = codes "ForeignObject"
reason_word reasons.Budget = codes "Budget"
reason_word reasons.Faulted = codes "Faulted"
