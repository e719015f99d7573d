use Rattle.std.proofs.Common.{take}
use Rattle.hierarchy.specs.steps.HeldTexts.{texts_of}
use Rattle.hierarchy.specs.steps.TextNumbers.{FindTexts}
use Rattle.hierarchy.proofs.texts.numbers_of.Given as goal

abbrev pub invariant-loop-number : goal.invariant-loop-number
invariant-loop-number l = FindTexts (texts_of (take l.number l.texts)) l.numbers
