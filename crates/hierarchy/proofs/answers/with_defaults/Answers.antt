use Rattle.std.proofs.Common.{ℕ, ◌+◌, take, subst, sym}
use Rattle.hierarchy.specs.MemberLookup.{IsDefault}
use Rattle.hierarchy.specs.steps.Answers.{classes_with}
use Rattle.hierarchy.specs.steps.Defaults.{AreFound}
use Rattle.hierarchy.specs.declared.defaults.FoundMethods.{FoundMethods}
use Rattle.hierarchy.proofs.AnswersLemmas.{several_there, none_there}
use Rattle.hierarchy.proofs.WordLemmas.{no_bit}
use Rattle.hierarchy.specs.steps.DeclarationBits.{Has}
use Rattle.hierarchy.proofs.answers.with_defaults.Goals as goal

pub returns-then-word-eq0 : goal.returns-then-word-eq0
returns-then-word-eq0 c = λ family name d key bits are.
    none_there (IsDefault family name d) c.args.declared.now c.args.start key c.args.word bits
    (λ n has. no_bit n (subst (λ (w : ℕ). Has w n) c.if-word-eq0.true has)) c.args.found are

pub returns-then-are_several : goal.returns-then-are_several
returns-then-are_several c = λ family name d key bits are.
    let is = c.are_several.ensures c.if-are_several.true in
    subst (λ (f : FoundMethods). AreFound (IsDefault family name d)
    (classes_with key (take (c.args.start + 64) c.args.declared.now)) f) (sym is)
    (several_there (IsDefault family name d) c.args.declared.now c.args.start key c.args.word bits
    (subst (λ (f : FoundMethods). AreFound (IsDefault family name d) (classes_with key
    (take c.args.start c.args.declared.now))
    f) is are))
