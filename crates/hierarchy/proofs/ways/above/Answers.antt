use Rattle.std.proofs.Common.{ℕ, List, ◌∷◌, ◌++◌, [], take, get_or, subst, sym}
use Rattle.std.proofs.lemmas.List.{take_all, take_more}
use Rattle.std.proofs.lemmas.List.Elements.{Contains-get_or}
use Rattle.hierarchy.specs.steps.DeclarationBits.{Knows}
use Rattle.hierarchy.proofs.KnownLemmas.{row_there, row_lost}
use Rattle.hierarchy.proofs.ways.above.Goals as goal
use Rattle.hierarchy.proofs.ways.above.Goals.{in-Some, in_default}

pub loop-parent-init : goal.loop-parent-init
loop-parent-init c = λ family declares d k n small are. c.none-known.ensures family declares d k n

pub loop-parent-preserved : goal.loop-parent-preserved
loop-parent-preserved c = λ family declares d k n small are.
    let parents : List ℕ = c.args.parents.now in
    let i = c.loop-parent.parent-index in
    let p = get_or parents i 0 in
    let there = are p (Contains-get_or parents i 0 c.loop-parent-test.true) in
    subst (λ (l : List ℕ). Knows family declares l d k n c.match-get.known)
    (sym (take_more parents i 0 c.loop-parent-test.true))
    (elim c.match-get.branch [
      | in-Some w ↦
          subst (Knows family declares (take i parents ++ p ∷ []) d k n) (sym w.known-is)
          (w.before-known.ensures family declares (take i parents) p d k n small
          (c.loop-parent.invariant family declares d k n small are)
          (subst (Knows family declares (p ∷ []) d k n)
          (row_there c.args.rows.now p c.get.result w.in-Some.row c.get.ensures.lookup.1 c.get.ensures.lookup.0
          w.in-Some.is) there.1))
      | in_default w ↦
          absurd (row_lost c.args.rows.now p c.get.result c.get.ensures.lookup.0 w.in_default.not-Some there.0)
    ])

pub returns : goal.returns
returns c = λ family declares d k n small are.
    subst (λ (l : List ℕ). Knows family declares l d k n c.loop-parent.known)
    (take_all c.loop-parent.parent-index c.args.parents.now c.loop-parent-test.false)
    (c.loop-parent.invariant family declares d k n small are)
