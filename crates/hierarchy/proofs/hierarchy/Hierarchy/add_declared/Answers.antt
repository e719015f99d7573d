use Rattle.std.proofs.Common.{◌+◌, List, sym, ap, subst, ◌∙◌, inl, inr}
use Rattle.std.specs.List.{Contains}
use Rattle.std.specs.declared.vec.Vec.{Vec}
use Rattle.std.specs.declared.alloc.Global.{Global}
use Rattle.std.proofs.lemmas.List.{take_all}
use Rattle.hierarchy.specs.Resolution.{instance_method_in}
use Rattle.hierarchy.specs.steps.Reaches.{classes_noted}
use Rattle.hierarchy.specs.declared.member.DeclaredMember.{DeclaredMember}
use Rattle.hierarchy.specs.declared.reach_table.Reach.{Reach}
use Rattle.hierarchy.proofs.SelectableLemmas.{AreAdded, one_added, none_added, none_of}
use Rattle.hierarchy.proofs.hierarchy.Hierarchy.add_declared.Goals as goal
use Rattle.hierarchy.proofs.hierarchy.Hierarchy.add_declared.Goals.{in-Some+in_ok-push, in_default}

abbrev items_of : Vec DeclaredMember Global → List DeclaredMember
items_of v = v.items

pub loop-reach-preserved : goal.loop-reach-preserved
loop-reach-preserved c = λ name d k lookup.
    let own = instance_method_in c.args.self.now.family name in
    let row : List Reach = c.noted-reach-items.result.now in
    let old = c.args.methods.now.items in
    let is = sym (c.declared_at.ensures name lookup) in
    let before : AreAdded own row c.loop-reach.reach-index old c.loop-reach.methods.items =
    λ d k. c.loop-reach.invariant name d k lookup in
    elim c.match-declared_at.branch [
      | in-Some+in_ok-push w ↦
          subst (λ (l : List DeclaredMember). AreAdded own row (c.loop-reach.reach-index + 1) old l)
          (sym w.in_ok-push.ensures.items ∙ ap items_of (sym w.methods-is))
          (one_added own row c.loop-reach.reach-index old c.loop-reach.methods.items w.in-Some.found
          c.loop-reach-test.true (is ∙ w.in-Some.is) before) d k
      | in_default w ↦
          subst (λ (l : List DeclaredMember). AreAdded own row (c.loop-reach.reach-index + 1) old l)
          (ap items_of (sym w.methods-is))
          (none_added own row c.loop-reach.reach-index old c.loop-reach.methods.items
          c.loop-reach-test.true (is ∙ none_of c.declared_at.result w.in_default.not-Some) before) d k
    ]

pub returns : goal.returns
returns c = λ name d k lookup.
    let own = instance_method_in c.args.self.now.family name in
    let row : List Reach = c.noted-reach-items.result.now in
    let end = c.loop-reach.invariant name d k lookup in (
      λ p. elim (end.0 p) [ inl first ↦ inl first | inr (among, has) ↦ inr has ],
      λ p. elim p [
        | inl first ↦ end.1 (inl first)
        | inr has ↦ end.1 (inr (
          subst (λ (l : List Reach). Contains (classes_noted l) d)
              (sym (take_all c.loop-reach.reach-index row c.loop-reach-test.false))
              (c.noted-reach-items.ensures name d k lookup has),
          has,
        ))
      ],
    )
