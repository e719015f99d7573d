use Rattle.std.proofs.Common.{◌≡◌, Some, subst}
use Rattle.built_in.specs.Keys.{NameAndType}
use Rattle.hierarchy.specs.MemberLookup.{key_in}
use Rattle.hierarchy.specs.Resolution.{instance_method_in}
use Rattle.hierarchy.proofs.SelectableLemmas.{named_so}
use Rattle.hierarchy.proofs.hierarchy.Hierarchy.selectable_by.Goals as goal

pub returns-in-Some : goal.returns-in-Some
returns-in-Some c = λ name d k lookup.
    let family = c.args.self.now.family in
    let member = c.in-Some.member in
    let called : key_in family member.class member.index ≡ Some name =
    named_so family name member.class member.index (c.in-Some.ensures name lookup) in (
      λ has. (name, called, has),
      λ (other, is, has). (let same : other ≡ name = cc in
          subst (λ (n : NameAndType). instance_method_in family n d ≡ Some k) same has),
    )
