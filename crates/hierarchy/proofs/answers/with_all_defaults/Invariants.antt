use Rattle.std.proofs.Common.{ℕ, ◌+◌, take}
use Rattle.built_in.specs.Keys.{NameAndType}
use Rattle.loading.specs.Families.{Family}
use Rattle.hierarchy.specs.MemberLookup.{IsDefault}
use Rattle.hierarchy.specs.steps.Answers.{AreBitsOf, classes_with}
use Rattle.hierarchy.specs.steps.Defaults.{AreFound}
use Rattle.hierarchy.specs.declared.member_key.MemberKey.{MemberKey}
use Rattle.hierarchy.proofs.answers.with_all_defaults.Given as goal

abbrev pub invariant-loop-bit : goal.invariant-loop-bit
invariant-loop-bit l = (family : Family) (name : NameAndType) (c : ℕ) (key : MemberKey)
    → AreBitsOf (IsDefault family name c) l.declared l.start key l.word
    → AreFound (IsDefault family name c) (classes_with key (take l.start l.declared)) l.fn.found
    → AreFound (IsDefault family name c) (classes_with key (take (l.start + l.bit) l.declared)) l.found
