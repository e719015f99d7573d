use Rattle.std.proofs.Common.{◌≡◌, Some, ap, sym, subst, ◌∙◌, inl, inr}
use Rattle.built_in.specs.Keys.{NameAndType}
use Rattle.hierarchy.specs.MemberLookup.{key_in}
use Rattle.hierarchy.specs.Resolution.{instance_method_in}
use Rattle.hierarchy.specs.steps.Sought.{sought_name}
use Rattle.hierarchy.proofs.hierarchy.Hierarchy.add_named_like.Goals as goal

pub returns : goal.returns
returns c = λ d k.
    let family = c.args.self.now.family in
    let member = c.args.member in
    let name : NameAndType = sought_name c.sought.result in
    let called : key_in family member.class member.index ≡ Some name =
    sym c.in-Some.ensures ∙ ap Some (sym c.sought.ensures.name) in
    let added = c.in_ok-add_declared.ensures name d k c.sought.ensures.lookup in (
      λ p. elim (added.0 p) [ inl first ↦ inl first | inr has ↦ inr (name, called, has) ],
      λ p. elim p [
        | inl first ↦ added.1 (inl first)
        | inr (other, is, has) ↦ (let same : other ≡ name = cc in
            added.1 (inr (subst (λ (n : NameAndType). instance_method_in family n d ≡ Some k) same has)))
      ],
    )
