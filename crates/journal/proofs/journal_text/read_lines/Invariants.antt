use Rattle.std.proofs.Common.{length}
use Rattle.journal.specs.steps.Adding.{IsReadSo}
use Rattle.journal.proofs.journal_text.read_lines.Given as goal

abbrev pub invariant-loop-rest : goal.invariant-loop-rest
invariant-loop-rest l = IsReadSo l.text l.rest l.line l.runs.items

abbrev pub decreases-loop-rest : goal.decreases-loop-rest
decreases-loop-rest l = length l.rest
