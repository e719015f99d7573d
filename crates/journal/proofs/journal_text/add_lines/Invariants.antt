use Rattle.std.proofs.Common.{◌≡◌, take}
use Rattle.journal.specs.Journals.{lines_of}
use Rattle.journal.proofs.journal_text.add_lines.Given as goal

abbrev pub invariant-loop-place : goal.invariant-loop-place
invariant-loop-place l = l.text.items ≡ lines_of (take l.place l.runs)
