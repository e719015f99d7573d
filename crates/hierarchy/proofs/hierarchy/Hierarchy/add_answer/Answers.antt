use Rattle.std.proofs.Common.{subst}
use Rattle.hierarchy.specs.declared.asked.MemberKind.{MemberKind}
use Rattle.hierarchy.specs.steps.Answers.{IsResolved}
use Rattle.hierarchy.specs.steps.FoundAhead.{wanted_by}
use Rattle.hierarchy.proofs.hierarchy.Hierarchy.add_answer.Goals as goal

pub add_field-requires-clause-answer : goal.add_field-requires-clause-answer
add_field-requires-clause-answer c =
    subst (λ (k : MemberKind). IsResolved c.args.self.now (wanted_by k) c.args.answer.now) c.in-Field.is
    c.requires.answer

pub add_method-requires-clause-answer : goal.add_method-requires-clause-answer
add_method-requires-clause-answer c =
    subst (λ (k : MemberKind). IsResolved c.args.self.now (wanted_by k) c.args.answer.now) c.in-Method.is
    c.requires.answer
