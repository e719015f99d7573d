use Rattle.std.proofs.Common.{ℕ, Option, subst}
use Rattle.built_in.specs.Keys.{NameAndType}
use Rattle.built_in.specs.declared.class_id.ClassId.TheVariants as class_ids
use Rattle.hierarchy.specs.Resolution.{ResolvesMethod}
use Rattle.hierarchy.specs.steps.FoundAhead.{given_method}
use Rattle.hierarchy.specs.steps.MemberKeys.{AreNumbers, IsLookup}
use Rattle.hierarchy.specs.steps.Sought.{sought_name}
use Rattle.hierarchy.specs.declared.member.DeclaredMember.{DeclaredMember}
use Rattle.hierarchy.proofs.FoundAheadLemmas.{one_more}
use Rattle.hierarchy.proofs.MemberKeysLemmas.{one_key}
use Rattle.hierarchy.proofs.hierarchy.Hierarchy.add_method.Goals as goal

pub returns-in_ok-insert : goal.returns-in_ok-insert
returns-in_ok-insert c =
    let family = c.args.self.now.family in
    let answer = c.args.answer.now in
    let member = c.in-Some.member in
    let Resolves : NameAndType → ℕ → Option DeclaredMember → Type 0 =
    λ name n m. ResolvesMethod family name (class_ids.Given n) (given_method m) in
    one_more c.args.self.now.texts Resolves c.args.found.now c.insert.new.self answer.class answer.key member
    c.requires.found
    (λ name numbers.
    let sought : NameAndType = sought_name c.sought-sought.result in
    let is : AreNumbers c.args.self.now.texts sought answer.key =
    subst (IsLookup c.args.self.now.texts sought) (c.is_of.ensures c.if-not-is_of.false)
    c.sought-sought.ensures.lookup in
    subst (λ (n : NameAndType). Resolves n answer.class member)
    (one_key c.args.self.now.texts sought name answer.key is numbers)
    (c.answered_method.ensures member (c.requires.answer sought is) c.in-Some.is))
    c.in_ok-insert.ensures
