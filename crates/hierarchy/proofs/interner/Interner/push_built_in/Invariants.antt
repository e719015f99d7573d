use Rattle.std.proofs.Common.{◌≡◌, take}
use Rattle.hierarchy.specs.steps.BuiltInTexts.{built_in_texts}
use Rattle.hierarchy.proofs.interner.Interner.push_built_in.Given as goal

abbrev pub invariant-loop-text : goal.invariant-loop-text
invariant-loop-text l = l.self ≡ take l.text-index built_in_texts
