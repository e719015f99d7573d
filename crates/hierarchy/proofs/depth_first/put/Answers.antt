use Rattle.std.proofs.Common.{[], ◌∷◌}
use Rattle.std.proofs.lemmas.List.Elements.{Contains-append_left, Contains-append_right}
use Rattle.hierarchy.proofs.RowLemmas.{at_head}
use Rattle.hierarchy.proofs.depth_first.put.Goals as goal

pub returns-then-branch-clause-placed : goal.returns-then-branch-clause-placed
returns-then-branch-clause-placed c =
    let new = rw c.if-branch.true at c.in_ok-add.ensures.ok in
    let class = c.args.class in
    rw new.1 (Contains-append_right c.args.placed.now.items (class ∷ []) class (at_head class []))

pub returns-then-branch-clause-kept : goal.returns-then-branch-clause-kept
returns-then-branch-clause-kept c = λ x has.
    let new = rw c.if-branch.true at c.in_ok-add.ensures.ok in
    rw new.1 (Contains-append_left c.args.placed.now.items (c.args.class ∷ []) x has)

pub returns-then-branch-clause-holds : goal.returns-then-branch-clause-holds
returns-then-branch-clause-holds c = λ holds.
    let new = rw c.if-branch.true at c.in_ok-add.ensures.ok in
    rw new.1 (c.link.ensures.holds c.args.placed.now.items new.0 c.requires.above holds)

pub returns-else-branch-clause-placed : goal.returns-else-branch-clause-placed
returns-else-branch-clause-placed c =
    let same = rw c.if-branch.false at c.in_ok-add.ensures.ok in
    rw same.1 same.0

pub returns-else-branch-clause-kept : goal.returns-else-branch-clause-kept
returns-else-branch-clause-kept c = λ x has.
    let same = rw c.if-branch.false at c.in_ok-add.ensures.ok in
    rw same.1 has

pub returns-else-branch-clause-holds : goal.returns-else-branch-clause-holds
returns-else-branch-clause-holds c = λ holds.
    let same = rw c.if-branch.false at c.in_ok-add.ensures.ok in
    rw same.1 holds
