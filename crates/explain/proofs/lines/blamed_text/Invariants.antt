use Rattle.std.proofs.Common.{string_bytes}
use Rattle.explain.specs.Texts.{AreAtMost, IsBlamedLine}
use Rattle.explain.proofs.lines.blamed_text.Given as goal

abbrev pub invariant-loop-one : goal.invariant-loop-one
invariant-loop-one l = AreAtMost l.one-index (IsBlamedLine l.family) (string_bytes l.text)
