use Rattle.std.proofs.Common.{◌≡◌, take, string_bytes}
use Rattle.report.specs.Texts.{lines_from}
use Rattle.report.proofs.lines.report_text.Given as goal

abbrev pub invariant-loop-class : goal.invariant-loop-class
invariant-loop-class l = string_bytes l.text ≡ lines_from l.image 0 (take l.class l.verdicts)
